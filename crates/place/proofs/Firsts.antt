-- What is first in a list of pairs, as a relation and computed: the first bad piece, the first component whose unit came before, and the first
-- with which the totals do not fit. The last two are one argument, on the first pair that a test tells while a state is carried along
-- (`at_first`, `leads`). Assumes nothing.
use mathlib.Core.Path.{◌≡◌, refl, sym, ap, ◌∙◌}
use mathlib.Core.Bool.{Bool, true, false, not, cond, ◌&&◌, ◌||◌, false≢true}
use mathlib.Core.Logic.{◌↔◌}
use mathlib.Core.List.{List, [], ◌∷◌, ◌++◌, append_assoc}
use Rattle.std.specs.Prelude.{Option, None, Some}
use Prim.Native.Nat.{ℕ}
use Rattle.text.proofs.Bools.{both_ways, by_test, fails, holds_not}
use Rattle.text.proofs.Logic.{none_some}
use Rattle.unit.specs.Units.{is_unit}
use Rattle.unit.specs.declared.IntervalUnit.{IntervalUnit}
use Rattle.amount.specs.Scan.{amount_of}
use Rattle.component.specs.Fault.{is_amount}
use Rattle.component.specs.Spelled.{unit_for}
use Rattle.component.proofs.Faults.{amount_true, true_amount}
use Rattle.rule.specs.Contribution.{Counts, fits, plus, zeros}
use Rattle.rule.specs.Answer.{gives, totals, twice}
use Rattle.rule.specs.Meaning.{Runs, Repeats}
use Rattle.rule.proofs.Turns.{mark, unseen, again, again_twice}
use Rattle.rule.proofs.Demand3.{Amounts, no_more, one_more, repeats, runs_totals, totals_runs}
use Rattle.place.specs.Pieces.{Piece, Pair, pair, component_of, components}
use Rattle.place.specs.Place.{UnitPiece, no_piece, a_unit, FirstBad, bad_amount, bad_unit_piece, later, FirstRepeat, repeats_at, FirstUnfit, unfit_at}
use Rattle.place.specs.Where.{or_later, bad_unit, first_bad, seen_with, none_seen, first_repeat, first_unfit}

-- ---- the first bad piece

good_unit : {o : Option Piece} → UnitPiece o → bad_unit o ≡ None
unfolding bad_unit
good_unit no_piece = refl
good_unit (a_unit e) = rw e

module _ (n : ℕ) where
  -- its place is the computed one
  pub bad_computed : {d : List Pair} {p : ℕ} → FirstBad n d p → first_bad n d ≡ Some p
  unfolding first_bad or_later bad_unit
  bad_computed (bad_amount {c} f) =
      rw (fails (is_amount n c.amount.bytes) (true_amount n c.amount.bytes) (f (amount_of n c.amount.bytes)))
  bad_computed (bad_unit_piece {a} A e) = rw (amount_true n a.bytes A, e)
  bad_computed (later {c} A U F) = rw (amount_true n c.amount.bytes A, good_unit U, bad_computed F)

  -- and what is computed is its place
  pub bad_found : (d : List Pair) {p : ℕ} → first_bad n d ≡ Some p → FirstBad n d p
  unfolding first_bad or_later bad_unit
  bad_found [] e = none_some e
  bad_found (c ∷ d) {p} e =
      by_test (is_amount n c.amount.bytes)
      (λ h. on_unit c.amount c.spaced c.unit d h (bad_found d) (rw h at e))
      (λ h.
      let f : Some c.amount.at ≡ Some p = rw h at e in
      let q : c.amount.at ≡ p = cc in
      rw (← q) (bad_amount (λ v A. both_ways (is_amount n c.amount.bytes) h (amount_true n c.amount.bytes A))))
    where
      on_unit : (a : Piece) (s : Bool) (o : Option Piece) (d : List Pair) {p : ℕ} → is_amount n a.bytes ≡ true → (first_bad n d ≡ Some p → FirstBad n d p) → or_later (bad_unit o) (first_bad n d) ≡ Some p → FirstBad n (pair a s o ∷ d) p
      on_unit a s None d h F e = later (true_amount n a.bytes h) no_piece (F e)
      on_unit a s (Some w) d {p} h F e =
          by_test (is_unit w.bytes)
          (λ g. later (true_amount n a.bytes h) (a_unit g) (F (rw g at e)))
          (λ g.
          let f : Some w.at ≡ Some p = rw g at e in
          let q : w.at ≡ p = cc in
          rw (← q) (bad_unit_piece (true_amount n a.bytes h) g))

-- ---- the first pair that a test tells, while a state is carried along

module _ {S : Type 0} (tells : S → Pair → Bool) (next : S → Pair → S) where
  -- it tells one
  unfoldable comes : S → List Pair → Bool
  comes s [] = false
  comes s (c ∷ d) = tells s c || comes (next s c) d

  -- the place of the first
  unfoldable first : S → List Pair → Option ℕ
  first s [] = None
  first s (c ∷ d) = cond (tells s c) (Some c.amount.at) (first (next s c) d)

  no_first : (s : S) (d : List Pair) → comes s d ≡ false → first s d ≡ None
  unfolding comes first
  no_first s [] h = refl
  no_first s (c ∷ d) h = by_test (tells s c) (λ e. absurd (false≢true (sym (rw e at h)))) (λ e. rw e (no_first (next s c) d (rw e at h)))

  -- none before it, and one with it: it is the first
  at_first : (s : S) (front : List Pair) (c : Pair) (d : List Pair) → comes s front ≡ false → comes s (front ++ (c ∷ [])) ≡ true → first s (front ++ (c ∷ d)) ≡ Some c.amount.at
  unfolding comes first
  at_first s [] c d h g = by_test (tells s c) (λ e. rw e) (λ e. absurd (false≢true (rw e at g)))
  at_first s (x ∷ front) c d h g =
      by_test (tells s x) (λ e. absurd (false≢true (sym (rw e at h)))) (λ e. rw e (at_first (next s x) front c d (rw e at h) (rw e at g)))

  -- where one comes, there is such a first
  record Leads (s : S) (d : List Pair) : Type 0 where
    front : List Pair
    this : Pair
    rest : List Pair
    split : d ≡ front ++ (this ∷ rest)
    none_before : comes s front ≡ false
    one_with : comes s (front ++ (this ∷ [])) ≡ true

  leads : (s : S) (d : List Pair) → comes s d ≡ true → Leads s d
  unfolding comes
  leads s [] h = absurd (false≢true h)
  leads s (c ∷ d) h =
      by_test (tells s c)
      (λ e. record { front = []; this = c; rest = d; split = refl; none_before = refl; one_with = rw e })
      (λ e.
      let L = leads (next s c) d (rw e at h) in
      record { front = c ∷ L.front; this = L.this; rest = L.rest; split = ap (λ (x : List Pair). c ∷ x) L.split; none_before = rw e L.none_before; one_with = rw e L.one_with })

-- ---- the first component whose unit came before

module _ (u : IntervalUnit) where
  -- its unit was seen
  unfoldable was_seen : (IntervalUnit → Bool) → Pair → Bool
  was_seen seen c = seen (unit_for u (component_of c))

  -- the units seen with it
  unfoldable seeing : (IntervalUnit → Bool) → Pair → IntervalUnit → Bool
  seeing seen c = seen_with seen (unit_for u (component_of c))

  comes_again : (seen : IntervalUnit → Bool) (d : List Pair) → comes was_seen seeing seen d ≡ again u seen (components d)
  unfolding comes was_seen seeing again components seen_with mark
  comes_again seen [] = refl
  comes_again seen (c ∷ d) = rw (comes_again (seen_with seen (unit_for u (component_of c))) d)

  first_seen : (seen : IntervalUnit → Bool) (d : List Pair) → first_repeat u seen d ≡ first was_seen seeing seen d
  unfolding first was_seen seeing first_repeat
  first_seen seen [] = refl
  first_seen seen (c ∷ d) = rw (first_seen (seen_with seen (unit_for u (component_of c))) d)

  abbrev twice_in : List Pair → Bool
  twice_in d = comes was_seen seeing none_seen d

  -- one comes exactly where a unit comes twice
  repeats_in : (d : List Pair) → Repeats u (components d) ↔ (twice_in d ≡ true)
  unfolding none_seen unseen
  repeats_in d =
      let e : twice_in d ≡ twice u (components d) = comes_again none_seen d ∙ again_twice u (components d) in
      rw e (repeats u (components d))

  once_in : (d : List Pair) → (Repeats u (components d) → ⊥) → twice_in d ≡ false
  once_in d f = fails (twice_in d) (repeats_in d).1 f

  -- its place is the computed one
  pub repeat_computed : {d : List Pair} {p : ℕ} → FirstRepeat u d p → first_repeat u none_seen d ≡ Some p
  repeat_computed (repeats_at front c d f r) =
      first_seen none_seen (front ++ (c ∷ d)) ∙ at_first was_seen seeing none_seen front c d (once_in front f) ((repeats_in (front ++ (c ∷ []))).0 r)

  -- none is computed where no unit comes twice
  pub no_repeat : (d : List Pair) → (Repeats u (components d) → ⊥) → first_repeat u none_seen d ≡ None
  no_repeat d f = first_seen none_seen d ∙ no_first was_seen seeing none_seen d (once_in d f)

  -- and there is one where a unit does
  pub repeat_found : (d : List Pair) → Repeats u (components d) → (p : ℕ) × FirstRepeat u d p
  repeat_found d r =
      let L = leads was_seen seeing none_seen d ((repeats_in d).0 r) in
      let a : List Pair = L.front in
      let b : List Pair = a ++ (L.this ∷ []) in
      (L.this.amount.at, rw (← L.split) at (repeats_at a L.this L.rest (holds_not L.none_before (repeats_in a).0) ((repeats_in b).1 L.one_with)))

-- ---- the first component with which the totals do not fit

module _ (n : ℕ) (u : IntervalUnit) where
  -- its contribution does not fit, or the totals with it do not
  unfoldable unfits : Counts → Pair → Bool
  unfits c p = not (fits (gives n u (component_of p)) && fits (plus c (gives n u (component_of p))))

  -- the totals with it
  unfoldable adding : Counts → Pair → Counts
  adding c p = plus c (gives n u (component_of p))

  unfoldable missing : Option Counts → Bool
  missing None = true
  missing (Some e) = false

  comes_missing : (c : Counts) (d : List Pair) → comes unfits adding c d ≡ missing (totals n u c (components d))
  unfolding comes unfits adding missing totals components
  comes_missing c [] = refl
  comes_missing c (p ∷ d) =
      by_test (fits (gives n u (component_of p)) && fits (plus c (gives n u (component_of p))))
      (λ e. rw (e, comes_missing (plus c (gives n u (component_of p))) d))
      (λ e. rw e)

  first_unfits : (c : Counts) (d : List Pair) → first_unfit n u c d ≡ first unfits adding c d
  unfolding first unfits adding first_unfit
  first_unfits c [] = refl
  first_unfits c (p ∷ d) =
      by_test (fits (gives n u (component_of p)) && fits (plus c (gives n u (component_of p))))
      (λ e. rw (e, first_unfits (plus c (gives n u (component_of p))) d))
      (λ e. rw e)

  abbrev unfit_in : List Pair → Bool
  unfit_in d = comes unfits adding zeros d

  -- none comes where there are running totals
  runs_fit : (d : List Pair) {e : Counts} → Runs n u zeros (components d) e → unfit_in d ≡ false
  unfolding missing
  runs_fit d R = comes_missing zeros d ∙ rw (runs_totals n u R)

  -- and of amounts there are, where none comes
  fit_runs : (d : List Pair) → Amounts n (components d) → unfit_in d ≡ false → (e : Counts) × Runs n u zeros (components d) e
  unfolding missing
  fit_runs d A h = from (totals n u zeros (components d)) refl
    where
      from : (o : Option Counts) → totals n u zeros (components d) ≡ o → (e : Counts) × Runs n u zeros (components d) e
      from None q = both_ways (unfit_in d) h (comes_missing zeros d ∙ rw q)
      from (Some e) q = (e, totals_runs n u zeros e A q)

  unfit_in_lem : (d : List Pair) → Amounts n (components d) → ((e : Counts) → Runs n u zeros (components d) e → ⊥) → unfit_in d ≡ true
  unfit_in_lem d A f = by_test (unfit_in d) (λ h. h) (λ h. let R = fit_runs d A h in absurd (f R.0 R.1))

  front_amounts : (a b : List Pair) → Amounts n (components (a ++ b)) → Amounts n (components a)
  unfolding components
  front_amounts [] b M = no_more
  front_amounts (c ∷ a) b (one_more A M) = one_more A (front_amounts a b M)

  -- its place is the computed one
  pub unfit_computed : {d : List Pair} {p : ℕ} → Amounts n (components d) → FirstUnfit n u d p → first_unfit n u zeros d ≡ Some p
  unfit_computed M (unfit_at front c d R f) =
      let b : List Pair = front ++ (c ∷ []) in
      let A : Amounts n (components b) = front_amounts b d (rw (append_assoc front (c ∷ []) d) M) in
      first_unfits zeros (front ++ (c ∷ d)) ∙ at_first unfits adding zeros front c d (runs_fit front R) (unfit_in_lem b A f)

  -- none is computed where there are running totals
  pub no_unfit : (d : List Pair) {e : Counts} → Runs n u zeros (components d) e → first_unfit n u zeros d ≡ None
  no_unfit d R = first_unfits zeros d ∙ no_first unfits adding zeros d (runs_fit d R)

  -- and there is one where there are not
  pub unfit_found : (d : List Pair) → Amounts n (components d) → ((e : Counts) → Runs n u zeros (components d) e → ⊥) → (p : ℕ) × FirstUnfit n u d p
  unfit_found d A f =
      let L = leads unfits adding zeros d (unfit_in_lem d A f) in
      let a : List Pair = L.front in
      let b : List Pair = a ++ (L.this ∷ []) in
      let R = fit_runs a (front_amounts a (L.this ∷ L.rest) (rw L.split at A)) L.none_before in
      (L.this.amount.at, rw (← L.split) at (unfit_at a L.this L.rest R.1 (λ e S. both_ways (unfit_in b) (runs_fit b S) L.one_with)))
