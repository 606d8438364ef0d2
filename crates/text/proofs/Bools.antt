-- Tests and what they tell. Assumes nothing.
use Rattle.std.proofs.Common.{◌≡◌, ℕ, ◌<◌, ◌≤◌, Bool, true, false, ◌&&◌, ◌||◌, leb, ◌⊎◌, sym, refl, ◌∙◌, inl, inr, le-leb, leb-true}
use mathlib.Core.Bool.{false≢true}
use borrow.Author.Tests.{lt-leb}
use Rattle.text.specs.Digits.{within}

pub and_left : (x y : Bool) → x && y ≡ true → x ≡ true
and_left true y e = refl
and_left false y e = e

pub and_right : (x y : Bool) → x && y ≡ true → y ≡ true
and_right true y e = e
and_right false y e = absurd (false≢true e)

pub and_false : (x : Bool) → x && false ≡ false
and_false true = refl
and_false false = refl

pub or_cases : (x y : Bool) → x || y ≡ true → (x ≡ true) ⊎ (y ≡ true)
or_cases true y e = inl refl
or_cases false y e = inr e

-- a test cannot fail and hold
pub both_ways {ℓ} : {A : Type ℓ} (x : Bool) → x ≡ false → x ≡ true → A
both_ways x p q = absurd (false≢true (sym p ∙ q))

-- by cases of a test, each with its equation
pub by_test {ℓ} : {A : Type ℓ} (x : Bool) → (x ≡ true → A) → (x ≡ false → A) → A
by_test true f g = f refl
by_test false f g = g refl

-- a test that decides P: it fails where P does not hold, and P does not hold where it fails
pub fails : {P : Type 0} (x : Bool) → (x ≡ true → P) → (P → ⊥) → x ≡ false
fails x f n = by_test x (λ e. absurd (n (f e))) (λ e. e)

pub holds_not : {P : Type 0} {x : Bool} → x ≡ false → (P → x ≡ true) → P → ⊥
holds_not {P} {x} e f p = both_ways x e (f p)

-- ---- a range

pub within_yes : (a b c : ℕ) → a ≤ b → b ≤ c → within a b c ≡ true
within_yes a b c p q = rw (le-leb a b p, le-leb b c q)

pub within_under : (a b c : ℕ) → b < a → within a b c ≡ false
within_under a b c p = rw (lt-leb a b p)

pub within_over : (a b c : ℕ) → c < b → within a b c ≡ false
within_over a b c p = rw (lt-leb b c p) (and_false (leb a b))

pub within_is : (a b c : ℕ) → within a b c ≡ true → (a ≤ b) × (b ≤ c)
within_is a b c e =
    (leb-true a b (and_left (leb a b) (leb b c) e), leb-true b c (and_right (leb a b) (leb b c) e))
