-- From integers to natural numbers, where `omega` works. An integer z is the difference of two numbers, `P z` and `N z`, and each
-- fact about z that linear arithmetic needs is one about P z and N z: a sum's (`add_pn`), a negation's (`P-neg`, `N-neg`), an order's,
-- an equation's (`eq_of`) and that z fits a signed width (`fits_of`, `of_fits`). So hand `omega` the laws of the terms that the goal holds.
-- Assumes nothing.
use mathlib.Core.Path.{◌≡◌, refl, sym, ap, ◌∙◌, subst}
use mathlib.Core.Bool.{Bool, true, false, cond}
use Prim.Native.Nat.{ℕ, zero, suc, ◌+◌, ◌-◌, ◌*◌, ◌^◌, ◌≤◌, ◌<◌}
use native.Mathlib.Omega.{arith}
use native.Mathlib.Nat.{zero-mul}
use lib.Dec.{T, ltb}
use lib.IntN.{ℤ, pos, negsuc, neg_ℤ, nat_abs, sub_ℕ, ◌+ℤ◌, ◌-ℤ◌, ◌*ℤ◌}
use lib.Signed.{mag, le_z}
use mir.Syntax.{Width}
use mir.Val.{SFits, hbits}
use borrow.Author.Tests.{ltb-true, ltb-false, leb-true, leb-false}

abbrev pub P : ℤ → ℕ
P (pos n) = n
P (negsuc n) = 0

abbrev pub N : ℤ → ℕ
N (pos n) = 0
N (negsuc n) = suc n

-- ---- sums and differences

sub_case : (a b : ℕ) (t : Bool) → ltb a b ≡ t → P (cond t (negsuc (b - suc a)) (pos (a - b))) + b ≡ N (cond t (negsuc (b - suc a)) (pos (a - b))) + a
sub_case a b true e = omega (arith, ltb-true a b e)
sub_case a b false e = omega (arith, ltb-false a b e)

pub sub_pn : (a b : ℕ) → P (sub_ℕ a b) + b ≡ N (sub_ℕ a b) + a
sub_pn a b = sub_case a b (ltb a b) refl

pub add_pn : (a b : ℤ) → P (a +ℤ b) + (N a + N b) ≡ N (a +ℤ b) + (P a + P b)
add_pn (pos a) (pos b) = omega arith
add_pn (pos a) (negsuc b) = omega (arith, sub_pn a (suc b))
add_pn (negsuc a) (pos b) = omega (arith, sub_pn b (suc a))
add_pn (negsuc a) (negsuc b) = omega arith

pub P-neg : (a : ℤ) → P (neg_ℤ a) ≡ N a
P-neg (pos zero) = refl
P-neg (pos (suc n)) = refl
P-neg (negsuc n) = refl

pub N-neg : (a : ℤ) → N (neg_ℤ a) ≡ P a
N-neg (pos zero) = refl
N-neg (pos (suc n)) = refl
N-neg (negsuc n) = refl

pub sub-ℤ : (a b : ℤ) → P (a -ℤ b) + (N a + P b) ≡ N (a -ℤ b) + (P a + N b)
sub-ℤ a b = omega (arith, add_pn a (neg_ℤ b), P-neg b, N-neg b)

-- ---- a product with a natural number

pub mul_p : (z : ℤ) (k : ℕ) → P (z *ℤ pos k) ≡ P z * k
mul_p (pos a) k = refl
mul_p (negsuc a) k = P-neg (pos (suc a * k)) ∙ sym (zero-mul k)

pub mul_n : (z : ℤ) (k : ℕ) → N (z *ℤ pos k) ≡ N z * k
mul_n (pos a) k = sym (zero-mul k)
mul_n (negsuc a) k = N-neg (pos (suc a * k))

-- ---- the size of a negation, as the range takes it

-- ---- orders and equations

pub le_yes : (a b : ℤ) → le_z a b ≡ true → P a + N b ≤ P b + N a
le_yes (pos a) (pos b) e = omega (arith, leb-true a b e)
le_yes (pos a) (negsuc b) e = absurd (subst T (sym e) tt)
le_yes (negsuc a) (pos b) e = omega arith
le_yes (negsuc a) (negsuc b) e = omega (arith, leb-true b a e)

pub le_no : (a b : ℤ) → le_z a b ≡ false → P b + N a < P a + N b
le_no (pos a) (pos b) e = omega (arith, leb-false a b e)
le_no (pos a) (negsuc b) e = omega arith
le_no (negsuc a) (pos b) e = absurd (subst T e tt)
le_no (negsuc a) (negsuc b) e = omega (arith, leb-false b a e)

pub eq_of : (a b : ℤ) → P a + N b ≡ P b + N a → a ≡ b
eq_of (pos a) (pos b) h = ap pos (omega arith)
eq_of (pos a) (negsuc b) h = absurd (omega arith)
eq_of (negsuc a) (pos b) h = absurd (omega arith)
eq_of (negsuc a) (negsuc b) h = ap negsuc (omega arith)

-- ---- a signed width's range

pub of_mag : (z : ℤ) {m : ℕ} → (P z < N z + m) → (N z ≤ P z + m) → mag z < m
of_mag (pos n) h k = omega arith
of_mag (negsuc n) h k = omega arith

-- a number within b of zero
pub near : (z : ℤ) (b : ℕ) → (P z ≤ N z + b) × (N z ≤ P z + b) → mag z ≤ b
near z b h =
    let l : mag z < b + 1 = of_mag z (omega (arith, h.0)) (omega (arith, h.1)) in
    omega arith

pub fits_of : (w : Width) (z : ℤ) → (P z < N z + 2 ^ hbits w) × (N z ≤ P z + 2 ^ hbits w) → SFits w z
fits_of w z h = record { sfits = of_mag z h.0 h.1 }

-- ---- a number that is not negative, as a cast to an unsigned type takes it, and the size of any

pub abs_neg : (n : ℕ) → nat_abs (neg_ℤ (pos n)) ≡ n
abs_neg zero = refl
abs_neg (suc n) = refl

pub abs_zero : (z : ℤ) → nat_abs z ≡ 0 → z ≡ pos 0
abs_zero (pos n) e = ap pos e
abs_zero (negsuc n) e = absurd (omega arith)

-- P and N are at most the size
pub size_pn : (z : ℤ) → (P z ≤ nat_abs z) × (N z ≤ nat_abs z)
size_pn (pos n) = omega arith
size_pn (negsuc n) = omega arith

pub abs_up : (z : ℤ) → N z ≤ P z → nat_abs z + N z ≡ P z
abs_up (pos n) h = omega arith
abs_up (negsuc n) h = absurd (omega arith)

pub abs_down : (z : ℤ) → P z ≤ N z → nat_abs z + P z ≡ N z
abs_down (pos n) h = omega arith
abs_down (negsuc n) h = omega arith
