-- The narrowed forms as the code makes them: months alone, and days with milliseconds. Assumes nothing.
use mathlib.Core.Path.{◌≡◌, sym}
use Rattle.std.specs.Prelude.{Option, None, Some, option_map, Result, Ok, Err}
use Rattle.std.specs.Option.{ok_or}
use mathlib.Core.List.{List}
use Prim.Native.Nat.{ℕ}
use Rattle.refusal.specs.Outcome.{Outcome, accepted, refused}
use Rattle.unit.specs.declared.IntervalUnit.{IntervalUnit}
use Rattle.place.specs.Read.{place_in}
use Rattle.place.specs.declared.IntervalRefusal.{IntervalRefusal}
use Rattle.place.specs.declared.IntervalRefusal.TheVariants.{Narrowed}
use Rattle.place.specs.Place.{Place}
use Rattle.place.specs.Where.{place}
use Rattle.place.proofs.Placing.{placed}
use Rattle.total.specs.Read.{counts_of, interval_outcome, place_read}
use Rattle.total.specs.declared.Interval.{Interval}
use Rattle.interval.specs.Read.{outcome_by}
use Rattle.rule.specs.Contribution.{Counts}
use Rattle.rule.specs.Answer.{or_narrowed, narrowed}

-- ---- a promise of the answer, and the place of its refusal beside it

pub with_place : {A B : Type 0} {n : ℕ} {u : IntervalUnit} {t : List ℕ} {o : Option ℕ} → A × B → o ≡ place n u t → A × (B × ((o ≡ place n u t) × Place n u t o))
with_place m e = (m.0, (m.1, (e, placed e)))

-- ---- narrowed by f: a value, none, or a refusal that stands

module _ {A : Type 0} (f : Counts → Option A) {o : Outcome Counts} where
  narrows_to : {c : Counts} {v : A} → o ≡ accepted c → Some v ≡ f c → accepted v ≡ narrowed f o
  unfolding narrowed or_narrowed
  narrows_to e h = rw (e, ← h)

  narrows_none : {c : Counts} → o ≡ accepted c → None ≡ f c → refused 11 ≡ narrowed f o
  unfolding narrowed or_narrowed
  narrows_none e h = rw (e, ← h)

  -- what the code makes of an interval i, by g, where q is what f makes of it
  pub narrows : {B : Type 0} (g : B → A) {r : Result Interval IntervalRefusal} {i : Interval} → r ≡ Ok i → interval_outcome r ≡ o → (q : Option B) → option_map g q ≡ f (counts_of i) → outcome_by g (ok_or q Narrowed) ≡ narrowed f o
  narrows g e h None k = narrows_none (sym (rw e at h)) k
  narrows g e h (Some v) k = narrows_to (sym (rw e at h)) k

  -- a refusal stands
  pub narrows_refused : {B : Type 0} (g : B → A) (why : IntervalRefusal) {r : Result Interval IntervalRefusal} → r ≡ Err why → interval_outcome r ≡ o → outcome_by g (Err why) ≡ narrowed f o
  unfolding narrowed
  narrows_refused g why e h = rw (sym (rw e at h))

-- neither what fits nor 11 has a place, and a refusal keeps its own
module _ {r : Result Interval IntervalRefusal} {p : Option ℕ} where
  pub no_place : {i : Interval} → r ≡ Ok i → place_read r ≡ p → {B : Type 0} (q : Option B) → place_read (ok_or q Narrowed) ≡ p
  no_place e h None = rw e at h
  no_place e h (Some v) = rw e at h

  pub same_place : (why : IntervalRefusal) → r ≡ Err why → place_read r ≡ p → place_in why ≡ p
  same_place why e h = rw e at h
