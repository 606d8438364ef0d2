-- The place of a text's refusal, component by component from the left, as a loop goes: which units were seen, where one first came again, the totals
-- so far, if they fit, where they first did not, and the pairs that are left. Assumes nothing.
use mathlib.Core.Path.{◌≡◌, refl, sym, ◌∙◌}
use mathlib.Core.Bool.{Bool, cond, ◌&&◌}
use mathlib.Core.List.{List, [], ◌∷◌}
use Rattle.std.specs.Prelude.{Option, None, Some, Result, Ok}
use Rattle.std.specs.Option.{ok_or}
use Rattle.std.proofs.lemmas.Option.{none-some}
use Prim.Native.Nat.{ℕ}
use Rattle.text.proofs.Bools.{by_test}
use Rattle.unit.specs.declared.IntervalUnit.{IntervalUnit}
use Rattle.component.specs.Grammar.{Component}
use Rattle.component.specs.Spelled.{unit_for}
use Rattle.rule.specs.Contribution.{Counts, fits, plus, zeros}
use Rattle.rule.specs.Answer.{gives}
use Rattle.rule.proofs.Turns.{add_to}
use Rattle.place.specs.Pieces.{Pair, component_of}
use Rattle.place.specs.Where.{or_later, first_bad, seen_with, none_seen, first_repeat, first_unfit, first_of}
use Rattle.place.proofs.Turning.{Good}
use Rattle.total.specs.Helpers.{sum_of, totals_of, unfit_of, added, on_added, unfit_with}
use Rattle.total.specs.Read.{counts_of}
use Rattle.total.specs.declared.Interval.{Interval}

-- ---- the first of several places

or_assoc : (a b c : Option ℕ) → or_later (or_later a b) c ≡ or_later a (or_later b c)
unfolding or_later
or_assoc None b c = refl
or_assoc (Some p) b c = refl

or_none : (a : Option ℕ) → or_later a None ≡ a
unfolding or_later
or_none None = refl
or_none (Some p) = refl

none_or : (a : Option ℕ) → or_later None a ≡ a
unfolding or_later
none_or a = refl

-- two lists of places, woven
weave : (r a b x c d : Option ℕ) → or_later r (or_later (or_later a b) (or_later x (or_later c d))) ≡ or_later (or_later r a) (or_later b (or_later (or_later x c) d))
weave r a b x c d = rw (or_assoc a b (or_later x (or_later c d)), or_assoc r a (or_later b (or_later (or_later x c) d)), or_assoc x c d)

module _ (n : ℕ) (u : IntervalUnit) where
  -- where totals first do not fit, from those so far
  unfoldable pub unfit_from : Option Counts → List Pair → Option ℕ
  unfit_from None d = None
  unfit_from (Some c) d = first_unfit n u c d

  -- the place, where the pairs d are left
  unfoldable pub ahead : (IntervalUnit → Bool) → Option ℕ → Option Counts → Option ℕ → List Pair → Option ℕ
  ahead seen repeated total unfit d = or_later (first_bad n d) (or_later repeated (or_later (first_repeat u seen d) (or_later unfit (unfit_from total d))))

  -- the loop's start
  pub ahead_start : (d : List Pair) → first_of n u d ≡ ahead none_seen None (Some zeros) None d
  unfolding first_of ahead unfit_from or_later
  ahead_start d = refl

  -- a bad piece is next
  pub ahead_bad : (seen : IntervalUnit → Bool) (repeated : Option ℕ) (total : Option Counts) (unfit : Option ℕ) (d : List Pair) {p : ℕ} → first_bad n d ≡ Some p → ahead seen repeated total unfit d ≡ Some p
  unfolding ahead or_later
  ahead_bad seen repeated total unfit d e = rw e

  -- a pair q at the place p is next, of the component c
  module _ {p : ℕ} {q : Pair} (G : Good n p q) {c : Component} (C : component_of q ≡ c) where
    repeat_next : (seen : IntervalUnit → Bool) (d : List Pair) → first_repeat u seen (q ∷ d) ≡ or_later (cond (seen (unit_for u c)) (Some p) None) (first_repeat u (seen_with seen (unit_for u c)) d)
    unfolding first_repeat or_later
    repeat_next seen d = rw (C, G.begins) (by_test (seen (unit_for u c)) (λ e. rw e) (λ e. rw e))

    unfit_next : (total : Option Counts) (d : List Pair) → unfit_from total (q ∷ d) ≡ or_later (unfit_with total (gives n u c) p) (unfit_from (add_to n u total c) d)
    unfolding unfit_from unfit_with first_unfit add_to or_later
    unfit_next None d = refl
    unfit_next (Some k) d = rw (C, G.begins) (by_test (fits (gives n u c) && fits (plus k (gives n u c))) (λ e. rw e) (λ e. rw e))

    pub ahead_next : (seen : IntervalUnit → Bool) (repeated : Option ℕ) (total : Option Counts) (unfit : Option ℕ) (d : List Pair)
        → ahead seen repeated total unfit (q ∷ d) ≡ ahead (seen_with seen (unit_for u c)) (or_later repeated (cond (seen (unit_for u c)) (Some p) None)) (add_to n u total c) (or_later unfit (unfit_with total (gives n u c) p)) d
    unfolding ahead
    ahead_next seen repeated total unfit d =
        rw (G.good d, repeat_next seen d, unfit_next total d, weave repeated (cond (seen (unit_for u c)) (Some p) None) (first_repeat u (seen_with seen (unit_for u c)) d) unfit (unfit_with total (gives n u c) p) (unfit_from (add_to n u total c) d))

  -- no pair is left
  pub ahead_end : (seen : IntervalUnit → Bool) (repeated : Option ℕ) (total : Option Counts) (unfit : Option ℕ) → ahead seen repeated total unfit [] ≡ or_later repeated unfit
  unfolding ahead first_bad first_repeat unfit_from first_unfit
  ahead_end seen repeated None unfit = rw (none_or (or_later repeated (or_later None (or_later unfit None))), none_or (or_later unfit None), or_none unfit)
  ahead_end seen repeated (Some c) unfit = rw (none_or (or_later repeated (or_later None (or_later unfit None))), none_or (or_later unfit None), or_none unfit)

  -- only what was seen matters, not how it is kept
  repeat_same : (f g : IntervalUnit → Bool) → ((v : IntervalUnit) → f v ≡ g v) → (d : List Pair) → first_repeat u f d ≡ first_repeat u g d
  unfolding first_repeat seen_with
  repeat_same f g h [] = refl
  repeat_same f g h (q ∷ d) =
      rw (h (unit_for u (component_of q)), repeat_same (seen_with f (unit_for u (component_of q))) (seen_with g (unit_for u (component_of q))) (λ w. rw (h w)) d)

  pub ahead_same : (f g : IntervalUnit → Bool) → ((v : IntervalUnit) → f v ≡ g v) → (repeated : Option ℕ) (total : Option Counts) (unfit : Option ℕ) (d : List Pair) → ahead f repeated total unfit d ≡ ahead g repeated total unfit d
  unfolding ahead
  ahead_same f g h repeated total unfit d = rw (repeat_same f g h d)

-- ---- a contribution k that is added to the totals c

module _ (c k : Counts) (at : ℕ) where
  pub fits_with : {e : Counts} → Some e ≡ added c k → None ≡ unfit_with (Some c) k at
  unfolding added unfit_with
  fits_with {e} h = by_test (fits k && fits (plus c k)) (λ f. rw f) (λ f. absurd (none-some e (sym (h ∙ rw f))))

  pub over_with : None ≡ added c k → Some at ≡ unfit_with (Some c) k at
  unfolding added unfit_with
  over_with h = by_test (fits k && fits (plus c k)) (λ f. absurd (none-some (plus c k) (h ∙ rw f))) (λ f. rw f)

  -- the totals that come of it, or none, and the place where they first did not fit
  added_at : (o : Option Interval) → sum_of o ≡ added c k → (totals_of (ok_or o at) ≡ added c k) × (unfit_of (ok_or o at) ≡ unfit_with (Some c) k at)
  added_at None e = (e, over_with e)
  added_at (Some i) e = (e, fits_with e)

-- the same from totals o that fit so far
pub added_to : {t : Result Interval ℕ} {i : Interval} → t ≡ Ok i → (k : Counts) (at : ℕ) (o : Option Interval) → sum_of o ≡ added (counts_of i) k → (totals_of (ok_or o at) ≡ on_added (totals_of t) k) × (unfit_of (ok_or o at) ≡ or_later (unfit_of t) (unfit_with (totals_of t) k at))
unfolding on_added or_later
added_to {t} {i} e k at o h = rw e (added_at (counts_of i) k at o h)
