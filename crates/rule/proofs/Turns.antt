-- The answer of a division, component by component from the left, as a loop goes: which units were seen, whether one came again, and the
-- totals so far, if they fit. Assumes nothing.
use mathlib.Core.Path.{◌≡◌, refl}
use mathlib.Core.Bool.{Bool, true, false, cond, ◌&&◌, ◌||◌}
use mathlib.Core.List.{List, [], ◌∷◌}
use Rattle.std.specs.Prelude.{Option, None, Some}
use Prim.Native.Nat.{ℕ}
use lib.Dec.{eqb}
use Rattle.text.proofs.Bools.{by_test}
use Rattle.refusal.specs.Outcome.{Outcome, refused}
use Rattle.unit.specs.Units.{rank}
use Rattle.component.specs.Grammar.{Component}
use Rattle.component.specs.Division.{before}
use Rattle.component.specs.Spelled.{unit_for}
use Rattle.unit.specs.declared.IntervalUnit.{IntervalUnit}
use Rattle.rule.specs.Contribution.{Counts, fits, plus, zeros}
use Rattle.rule.specs.Answer.{gives, totals, has, twice, on_totals, on_division}

-- ---- units seen

-- the units seen, and v
unfoldable pub mark : (IntervalUnit → Bool) → IntervalUnit → IntervalUnit → Bool
mark seen v w = eqb (rank v) (rank w) || seen w

-- none yet
unfoldable pub unseen : IntervalUnit → Bool
unseen v = false

swap : (a b c d : Bool) → (a || b) || (c || d) ≡ (a || c) || (b || d)
swap true b c d = refl
swap false true true d = refl
swap false true false d = refl
swap false false c d = refl

assoc : (a b c : Bool) → (a || b) || c ≡ a || (b || c)
assoc true b c = refl
assoc false b c = refl

module _ (u : IntervalUnit) where
  -- a component has a unit that was seen
  unfoldable any : (IntervalUnit → Bool) → List Component → Bool
  any seen [] = false
  any seen (c ∷ d) = seen (unit_for u c) || any seen d

  -- a unit comes that was seen, or that came before
  unfoldable pub again : (IntervalUnit → Bool) → List Component → Bool
  again seen [] = false
  again seen (c ∷ d) = seen (unit_for u c) || again (mark seen (unit_for u c)) d

  any_mark : (seen : IntervalUnit → Bool) (v : IntervalUnit) (d : List Component) → any (mark seen v) d ≡ has u v d || any seen d
  unfolding any mark has
  any_mark seen v [] = refl
  any_mark seen v (c ∷ d) = rw (any_mark seen v d) (swap (eqb (rank v) (rank (unit_for u c))) (seen (unit_for u c)) (has u v d) (any seen d))

  again_is : (seen : IntervalUnit → Bool) (d : List Component) → again seen d ≡ any seen d || twice u d
  unfolding again any twice
  again_is seen [] = refl
  again_is seen (c ∷ d) =
      rw (again_is (mark seen (unit_for u c)) d, any_mark seen (unit_for u c) d)
      (regroup (seen (unit_for u c)) (has u (unit_for u c) d) (any seen d) (twice u d))
    where
      regroup : (a b c d : Bool) → a || ((b || c) || d) ≡ (a || c) || (b || d)
      regroup true b c d = refl
      regroup false true true d = refl
      regroup false true false d = refl
      regroup false false c d = refl

  any_unseen : (d : List Component) → any unseen d ≡ false
  unfolding any unseen
  any_unseen [] = refl
  any_unseen (c ∷ d) = any_unseen d

  -- from the start on, that is: a unit comes twice
  pub again_twice : (d : List Component) → again unseen d ≡ twice u d
  again_twice d = rw (again_is unseen d, any_unseen d)

  -- only what was seen matters, not how it is kept
  pub same_seen : (f g : IntervalUnit → Bool) → ((v : IntervalUnit) → f v ≡ g v) → (d : List Component) → again f d ≡ again g d
  unfolding again mark
  same_seen f g h [] = refl
  same_seen f g h (c ∷ d) =
      rw (h (unit_for u c), same_seen (mark f (unit_for u c)) (mark g (unit_for u c)) (λ w. rw (h w)) d)

-- ---- the answer from a place on

module _ (n : ℕ) (u : IntervalUnit) where
  -- the totals with one more component, if it and they fit
  unfoldable pub add_to : Option Counts → Component → Option Counts
  add_to None p = None
  add_to (Some c) p = cond (fits (gives n u p) && fits (plus c (gives n u p))) (Some (plus c (gives n u p))) None

  -- the last totals from those so far
  unfoldable pub onward : Option Counts → List Component → Option Counts
  onward None d = None
  onward (Some c) d = totals n u c d

  -- the answer, where the division's rest is o
  unfoldable pub settle : (IntervalUnit → Bool) → Bool → Option Counts → Option (List Component) → Outcome Counts
  settle seen repeated total None = refused 8
  settle seen repeated total (Some d) = cond (repeated || again u seen d) (refused 9) (on_totals (onward total d))

  onward_more : (o : Option Counts) (p : Component) (d : List Component) → onward o (p ∷ d) ≡ onward (add_to o p) d
  unfolding onward add_to totals
  onward_more None p d = refl
  onward_more (Some c) p d =
      by_test (fits (gives n u p) && fits (plus c (gives n u p))) (λ e. rw e) (λ e. rw e)

  onward_end : (o : Option Counts) → onward o [] ≡ o
  unfolding onward totals
  onward_end None = refl
  onward_end (Some c) = refl

  -- the loop's start
  pub settle_start : (o : Option (List Component)) → on_division n u o ≡ settle unseen false (Some zeros) o
  unfolding on_division settle onward
  settle_start None = refl
  settle_start (Some d) = rw (again_twice u d)

  module _ (seen : IntervalUnit → Bool) (repeated : Bool) (total : Option Counts) where
    -- no component there
    pub settle_bad : settle seen repeated total None ≡ refused 8
    unfolding settle
    settle_bad = refl

    -- a last one
    pub settle_last : (p : Component) → settle seen repeated total (Some (p ∷ [])) ≡ cond (repeated || seen (unit_for u p)) (refused 9) (on_totals (add_to total p))
    unfolding settle again
    settle_last p = rw (onward_more total p [], onward_end (add_to total p), or_false (seen (unit_for u p)))
      where
        or_false : (b : Bool) → b || false ≡ b
        or_false true = refl
        or_false false = refl

    -- one more
    pub settle_more : (p : Component) (o : Option (List Component)) → settle seen repeated total (before p o) ≡ settle (mark seen (unit_for u p)) (repeated || seen (unit_for u p)) (add_to total p) o
    unfolding settle again before
    settle_more p None = refl
    settle_more p (Some d) = rw (onward_more total p d, assoc repeated (seen (unit_for u p)) (again u (mark seen (unit_for u p)) d))

  -- marks may be kept in any form
  pub settle_same : (f g : IntervalUnit → Bool) → ((v : IntervalUnit) → f v ≡ g v) → (repeated : Bool) (total : Option Counts) (o : Option (List Component)) → settle f repeated total o ≡ settle g repeated total o
  unfolding settle
  settle_same f g h repeated total None = refl
  settle_same f g h repeated total (Some d) = rw (same_seen u f g h d)
