-- A list in which no unit comes twice has at most twelve components, since there are twelve units. Assumes nothing.
use mathlib.Core.Path.{◌≡◌, refl}
use mathlib.Core.Bool.{Bool, false, true≢false, ◌||◌, cond}
use mathlib.Core.List.{List, [], ◌∷◌}
use Prim.Native.Nat.{ℕ, zero, suc, ◌+◌, ◌≤◌, ◌<◌}
use native.Mathlib.Omega.{arith}
use lib.Dec.{eqb}
use lib.ListN.{length}
use borrow.Author.Tests.{eqb-true, eqb-false, ne_eqb}
use Rattle.text.proofs.Bools.{by_test}
use Rattle.unit.specs.Units.{rank}
use Rattle.unit.specs.declared.IntervalUnit.{IntervalUnit}
use Rattle.component.specs.Grammar.{Component}
use Rattle.component.specs.Spelled.{unit_for}
use Rattle.rule.specs.Answer.{has, twice}
use Rattle.total.proofs.Folding.{rank_below}

-- of the numbers below k, how many are marked
count : ℕ → (ℕ → Bool) → ℕ
count zero f = 0
count (suc k) f = cond (f k) (suc (count k f)) (count k f)

-- r is marked too
with : ℕ → (ℕ → Bool) → ℕ → Bool
with r f k = eqb r k || f k

most : (k : ℕ) (f : ℕ → Bool) → count k f ≤ k
unfolding count
most zero f = omega arith
most (suc k) f = by_test (f k) (λ t. rw (t) (omega (arith, most k f))) (λ t. rw (t) (omega (arith, most k f)))

module _ (f : ℕ → Bool) (r : ℕ) (free : f r ≡ false) where
  above : (k : ℕ) → k ≤ r → count k (with r f) ≡ count k f
  unfolding count with
  above zero h = refl
  above (suc k) h = rw (ne_eqb r k (λ e. omega arith), above k (omega arith)) refl

  one_more : (k : ℕ) → r < k → count k (with r f) ≡ suc (count k f)
  unfolding count with
  one_more zero h = absurd (omega arith)
  one_more (suc k) h =
      by_test (eqb r k)
      (λ t. let e : r ≡ k = eqb-true r k t in let g : f k ≡ false = rw (e) at free in rw (t, above k (omega arith), g) refl)
      (λ t. rw (t, one_more k (omega (arith, eqb-false r k t))) (by_test (f k) (λ g. rw (g) refl) (λ g. rw (g) refl)))

-- no unit of a list is marked
data Free (u : IntervalUnit) (f : ℕ → Bool) : List Component → Type 0 where
  none_left : Free u f []
  free : {c : Component} {d : List Component} → f (rank (unit_for u c)) ≡ false → Free u f d → Free u f (c ∷ d)

still : (u v : IntervalUnit) {f : ℕ → Bool} {d : List Component} → has u v d ≡ false → Free u f d → Free u (with (rank v) f) d
unfolding has with
still u v h none_left = none_left
still u v h (free {c} {d} q r) =
    by_test (eqb (rank v) (rank (unit_for u c))) (λ t. absurd (true≢false (rw (t) at h))) (λ t. free (rw (t) q) (still u v (rw (t) at h) r))

fewer : (u : IntervalUnit) (f : ℕ → Bool) (d : List Component) → twice u d ≡ false → Free u f d → length d + count 12 f ≤ 12
unfolding twice
fewer u f [] h r = omega (arith, most 12 f)
fewer u f (c ∷ d) h (free q r) =
    by_test (has u (unit_for u c) d) (λ t. absurd (true≢false (rw (t) at h)))
    (λ t. omega (arith, fewer u (with (rank (unit_for u c)) f) d (rw (t) at h) (still u (unit_for u c) t r), one_more f (rank (unit_for u c)) q 12 (rank_below (unit_for u c))))

all_free : (u : IntervalUnit) (d : List Component) → Free u (λ k. false) d
all_free u [] = none_left
all_free u (c ∷ d) = free refl (all_free u d)

pub at_most_twelve : (u : IntervalUnit) (d : List Component) → twice u d ≡ false → length d ≤ 12
at_most_twelve u d h = omega (arith, fewer u (λ k. false) d h (all_free u d))
