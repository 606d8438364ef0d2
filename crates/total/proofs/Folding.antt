-- A turn of the loop that adds up components: units are marked in a list by their ranks, and the answer from a place on is that of the
-- whole text. Assumes nothing.
use mathlib.Core.Path.{◌≡◌, refl, sym, ◌∙◌}
use mathlib.Core.Bool.{Bool, true, false, cond, ◌||◌}
use mathlib.Core.List.{List}
use Rattle.std.specs.Prelude.{Option, None, Some}
use Rattle.std.specs.Option.{option_or}
use Rattle.std.specs.Bool.{then_some}
use Prim.Native.Nat.{ℕ, ◌+◌, ◌-◌, ◌<◌}
use native.Mathlib.Omega.{arith}
use lib.Dec.{eqb}
use lib.ListN.{length, get_or, set, drop, replicate, get_or-replicate}
use lib.Seq.{drop-drop, get_or-set_same, get_or-set_other}
use borrow.Author.Tests.{eqb-true, eqb-false}
use Rattle.utf8.specs.Utf8.{utf8}
use Rattle.text.proofs.Bools.{by_test}
use Rattle.refusal.specs.Outcome.{Outcome, refused, number_in}
use Rattle.unit.specs.Units.{rank, or_else}
use Rattle.amount.specs.Grammar.{precision}
use Rattle.amount.specs.Read.{value_of}
use Rattle.component.specs.Grammar.{Component}
use Rattle.component.specs.Division.{step, bad, before, divide}
use Rattle.component.specs.Spelled.{unit_for}
use Rattle.component.specs.Fault.{fault}
use Rattle.component.specs.Read.{Holds, LastIs, MoreIs}
use Rattle.amount.specs.declared.held.IntervalAmount.{IntervalAmount}
use Rattle.unit.specs.declared.IntervalUnit.{IntervalUnit}
use Rattle.unit.specs.declared.IntervalUnit.TheVariants.{Century, Decade, Year, Month, Week, Day, Hour, Minute, Second, Millisecond, Microsecond, Nanosecond}
use Rattle.amount.proofs.AmountLaws.{amount_value}
use Rattle.component.proofs.Steps.{at_bad, at_last, at_more}
use Rattle.rule.specs.Contribution.{Counts, contribution, zeros}
use Rattle.rule.specs.Answer.{gives, on_totals, on_division, month_day_nano}
use Rattle.total.specs.Helpers.{added, on_added, came, unfit_with}
use Rattle.rule.proofs.Turns.{mark, unseen, add_to, settle, settle_start, settle_bad, settle_last, settle_more, settle_same}
use Rattle.rule.proofs.Demand3.{but_eight, eight}
use Rattle.place.specs.Pieces.{Pair}
use Rattle.place.specs.Where.{or_later, seen_with, none_seen, first_of, pairs_from, place}
use Rattle.place.proofs.Turning.{Next, on_bad, on_stop, on_go}
use Rattle.total.proofs.Ahead.{ahead, ahead_start, ahead_bad, ahead_next, ahead_end, ahead_same}

-- ---- marks

-- the units that are marked
abbrev pub seen_in : List Bool → IntervalUnit → Bool
seen_in l v = get_or l (rank v) false

pub rank_below : (v : IntervalUnit) → rank v < 12
unfolding rank
rank_below Century = omega arith
rank_below Decade = omega arith
rank_below Year = omega arith
rank_below Month = omega arith
rank_below Week = omega arith
rank_below Day = omega arith
rank_below Hour = omega arith
rank_below Minute = omega arith
rank_below Second = omega arith
rank_below Millisecond = omega arith
rank_below Microsecond = omega arith
rank_below Nanosecond = omega arith

none_marked : (v : IntervalUnit) → unseen v ≡ seen_in (replicate 12 false) v
unfolding unseen
none_marked v = sym (get_or-replicate 12 (rank v) false false (rank_below v))

one_marked : (l : List Bool) → length l ≡ 12 → (v w : IntervalUnit) → mark (seen_in l) v w ≡ seen_in (set l (rank v) true) w
unfolding mark
one_marked l h v w =
    by_test (eqb (rank v) (rank w))
    (λ e. rw (e, ← eqb-true (rank v) (rank w) e) (sym (get_or-set_same l (rank v) true false (omega (arith, rank_below v)))))
    (λ e. rw e (sym (get_or-set_other l (rank v) (rank w) true false (λ q. eqb-false (rank v) (rank w) e (sym q)))))

-- ---- the answer from a place on

-- the text s is answered by what is read before place at, its marks, whether a unit came again and the totals, and by what is left
abbrev pub Goes : List ℕ → IntervalUnit → ℕ → List Bool → Bool → Option Counts → Type 0
Goes s u at seen repeated total =
    on_division precision u (divide precision s) ≡ settle precision u (seen_in seen) repeated total (divide precision (drop at s))

-- and the place of its refusal likewise, by where a unit first came again and where the totals first did not fit
abbrev pub Places : List ℕ → IntervalUnit → ℕ → List Bool → Option ℕ → Option Counts → Option ℕ → Type 0
Places s u at seen repeated total unfit =
    first_of precision u (pairs_from 0 s) ≡ ahead precision u (seen_in seen) repeated total unfit (pairs_from at (drop at s))

-- with one component more, a unit has come again where it had, or where this one's was seen
pub came_or : (r : Option ℕ) (again : Bool) (at : ℕ) → came (or_later r (cond again (Some at) None)) ≡ came r || again
unfolding came or_later
came_or None true at = refl
came_or None false at = refl
came_or (Some p) again at = refl

-- what the code counts of an amount is what its component gives
counted : (u : IntervalUnit) (a : IntervalAmount) (v : IntervalUnit) (c : Component) (w : Option IntervalUnit) → Holds precision c a w → unit_for u c ≡ v → contribution precision v (value_of a) ≡ gives precision u c
unfolding gives
counted u a v c w H e = rw (← amount_value H.amount_is, ← e)

-- what the code adds is what the definition adds
added_is : (u : IntervalUnit) (o : Option Counts) (c : Component) → on_added o (gives precision u c) ≡ add_to precision u o c
unfolding on_added added add_to
added_is u None c = refl
added_is u (Some k) c = refl

-- the answer at a last component is no number below 9
from_nine : {k : ℕ} (b : Bool) (o : Option Counts) → k < 9 → cond b (refused 9) (on_totals o) ≡ refused k → ⊥
unfolding on_totals
from_nine {k} true o h e = let z : ◌≡◌ {A = ℕ} 9 k = cc in omega arith
from_nine {k} false None h e = let z : ◌≡◌ {A = ℕ} 10 k = cc in omega arith
from_nine false (Some c) h e = let z : ◌≡◌ {A = ℕ} 0 1 = cc in omega arith

-- a unit that came again is told as the definition tells it
pub or_is : (r : Option ℕ) (again : Bool) (at : ℕ) → option_or r (then_some again at) ≡ or_later r (cond again (Some at) None)
unfolding or_later
or_is (Some p) again at = refl
or_is None true at = refl
or_is None false at = refl

module _ (s : List ℕ) (u : IntervalUnit) where
  pub starts : Goes s u 0 (replicate 12 false) false (Some zeros)
  starts =
      settle_start precision u (divide precision s) ∙
      settle_same precision u unseen (seen_in (replicate 12 false)) none_marked false (Some zeros) (divide precision s)

  pub starts_place : Places s u 0 (replicate 12 false) None (Some zeros) None
  unfolding none_seen unseen
  starts_place =
      ahead_start precision u (pairs_from 0 s) ∙
      ahead_same precision u none_seen (seen_in (replicate 12 false)) (λ v. none_marked v) None (Some zeros) None (pairs_from 0 s)

  -- where the text is UTF-8, or is not
  place_in : utf8 s ≡ true → place precision u s ≡ first_of precision u (pairs_from 0 s)
  unfolding place
  place_in e = rw e

  -- a text with another answer than 1 is UTF-8
  answered_utf8 : {r : Outcome Counts} → r ≡ month_day_nano precision u s → (r ≡ refused 1 → ⊥) → utf8 s ≡ true
  unfolding month_day_nano
  answered_utf8 e f = by_test (utf8 s) (λ h. h) (λ h. absurd (f (e ∙ rw h)))

  module _ (at : ℕ) (seen : List Bool) (repeated : Bool) (total : Option Counts) (G : Goes s u at seen repeated total) where
    -- no component: 8, or 1
    pub bad_answer : step precision (drop at s) ≡ bad → {k : ℕ} → k ≡ number_in s 8 → refused k ≡ month_day_nano precision u s
    bad_answer e h =
        let n : on_division precision u (divide precision s) ≡ refused 8 = G ∙ rw (at_bad precision s at e) (settle_bad precision u (seen_in seen) repeated total) in
        sym (eight precision u s n ∙ by_test (utf8 s) (λ p. rw (h, p)) (λ p. rw (h, p)))

    -- the amount a of unit v, whose mark is at k, makes the totals t
    module _ (a : IntervalAmount) (v : IntervalUnit) {k : ℕ} (K : k ≡ rank v) {t : Option Counts} (T : t ≡ on_added total (contribution precision v (value_of a))) where
      -- of a component c
      totals_are : (c : Component) (w : Option IntervalUnit) → Holds precision c a w → unit_for u c ≡ v → t ≡ add_to precision u total c
      totals_are c w H e = T ∙ rw (counted u a v c w H e) (added_is u total c)

      pub last_answer : {w : Option IntervalUnit} → LastIs precision s at a w → v ≡ or_else u w → {r : Outcome Counts} → r ≡ cond (repeated || get_or seen k false) (refused 9) (on_totals t) → r ≡ month_day_nano precision u s
      last_answer {w} L o {r} R =
          let c = L.this in
          let e : unit_for u c ≡ v = L.holds.unit_is u ∙ sym o in
          let n : on_division precision u (divide precision s) ≡ cond (repeated || get_or seen k false) (refused 9) (on_totals t) = G ∙ rw (at_last precision s at L.stepped, settle_last precision u (seen_in seen) repeated total c, e, K, totals_are c w L.holds e) in
          R ∙ sym (but_eight precision u s n (from_nine (repeated || get_or seen k false) t (omega arith)))

      -- so the text is UTF-8
      pub last_utf8 : {r : Outcome Counts} → r ≡ cond (repeated || get_or seen k false) (refused 9) (on_totals t) → r ≡ month_day_nano precision u s → utf8 s ≡ true
      last_utf8 R A = answered_utf8 A (λ e. from_nine (repeated || get_or seen k false) t (omega arith) (sym R ∙ e))

      pub more_goes : length seen ≡ 12 → {x : ℕ} → MoreIs precision s at a v x → Goes s u x (set seen k true) (repeated || get_or seen k false) t
      unfolding or_else
      more_goes h {x} M =
          let c = M.this in
          let e : unit_for u c ≡ v = M.holds.unit_is u in
          let p : at + (x - at) ≡ x = omega (arith, M.further) in
          let d : divide precision (drop at s) ≡ before c (divide precision (drop x s)) = rw p at (at_more precision s at M.stepped).divided in
          G ∙
          rw (d, settle_more precision u (seen_in seen) repeated total c (divide precision (drop x s)), e, K, totals_are c (Some v) M.holds e)
          (settle_same precision u (mark (seen_in seen) v) (seen_in (set seen (rank v) true)) (one_marked seen h v) (repeated || get_or seen (rank v) false) (add_to precision u total c) (divide precision (drop x s)))

  -- the same of places, where a unit first came again at `repeated` and the totals first did not fit at `unfit`
  module _ (at : ℕ) (seen : List Bool) (repeated : Option ℕ) (total : Option Counts) (unfit : Option ℕ) (P : Places s u at seen repeated total unfit) where
    -- no component: the first bad piece
    pub bad_place : step precision (drop at s) ≡ bad → {p : ℕ} → p ≡ at + fault precision (drop at s) → {o : Option ℕ} → o ≡ cond (utf8 s) (Some p) None → o ≡ place precision u s
    unfolding place
    bad_place e {p} h o =
        let f : first_of precision u (pairs_from 0 s) ≡ Some p = P ∙ ahead_bad precision u (seen_in seen) repeated total unfit (pairs_from at (drop at s)) (rw h (on_bad precision at (drop at s) e)) in
        o ∙ rw f

    module _ (a : IntervalAmount) (v : IntervalUnit) {k : ℕ} (K : k ≡ rank v) where
      -- what the component adds
      abbrev more : Counts
      more = contribution precision v (value_of a)

      -- the pairs behind a component c, which are d
      next_place : (c : Component) (w : Option IntervalUnit) → Holds precision c a w → unit_for u c ≡ v → {d : List Pair} → Next precision at (drop at s) c d
          → first_of precision u (pairs_from 0 s) ≡ ahead precision u (seen_with (seen_in seen) v) (or_later repeated (cond (get_or seen k false) (Some at) None)) (on_added total more) (or_later unfit (unfit_with total more at)) d
      next_place c w H e {d} N =
          P ∙
          rw (N.are, ahead_next precision u N.both N.component_is (seen_in seen) repeated total unfit d, counted u a v c w H e, added_is u total c, e, K)

      pub last_place : {w : Option IntervalUnit} → LastIs precision s at a w → v ≡ or_else u w → utf8 s ≡ true → {o r x : Option ℕ} → r ≡ or_later repeated (cond (get_or seen k false) (Some at) None) → x ≡ or_later unfit (unfit_with total more at) → o ≡ or_later r x → o ≡ place precision u s
      last_place {w} L i U R X O =
          let c = L.this in
          let e : unit_for u c ≡ v = L.holds.unit_is u ∙ sym i in
          O ∙
          rw (R, X)
          (sym (place_in U ∙ next_place c w L.holds e (on_stop precision at (drop at s) L.stepped) ∙
          ahead_end precision u (seen_with (seen_in seen) v) (or_later repeated (cond (get_or seen k false) (Some at) None)) (on_added total more) (or_later unfit (unfit_with total more at))))

      pub more_place : length seen ≡ 12 → {x : ℕ} → MoreIs precision s at a v x → {r y : Option ℕ} {t : Option Counts} → r ≡ or_later repeated (cond (get_or seen k false) (Some at) None) → t ≡ on_added total more → y ≡ or_later unfit (unfit_with total more at) → Places s u x (set seen k true) r t y
      unfolding or_else seen_with mark
      more_place h {x} M {r} {y} {t} R T Y =
          let c = M.this in
          let e : unit_for u c ≡ v = M.holds.unit_is u in
          let q : at + (x - at) ≡ x = omega (arith, M.further) in
          let N : Next precision at (drop at s) c (pairs_from x (drop x s)) = rw (q, drop-drop (x - at) at s, q) at (on_go precision at (drop at s) M.stepped) in
          next_place c (Some v) M.holds e N ∙
          rw (R, T, Y)
          (ahead_same precision u (seen_with (seen_in seen) v) (seen_in (set seen k true)) (rw K (one_marked seen h v)) (or_later repeated (cond (get_or seen k false) (Some at) None)) (on_added total more) (or_later unfit (unfit_with total more at)) (pairs_from x (drop x s)))
