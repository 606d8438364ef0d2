-- The fewest digits that hold a number are the digits that its tenth has, and its last. Assumes nothing.
use mathlib.Core.Path.{◌≡◌, refl, sym, ◌∙◌, ap}
use mathlib.Core.Bool.{cond}
use mathlib.Core.List.{List, [], ◌∷◌, ◌++◌}
use Prim.Native.Nat.{ℕ, zero, suc, ◌+◌, ◌*◌, ◌-◌, ◌/◌, ◌%◌, ◌^◌, ◌≤◌, ◌<◌}
use native.Mathlib.Nat.{pow-succ', pow-zero, pow-le-pow_right, mod-eq_of_lt}
use native.Mathlib.Omega.{arith}
use lib.IntN.{ℤ, pos, negsuc, nat_abs}
use lib.Signed.{lt_z}
use borrow.Author.Tests.{lt-ltb, le-ltb}
use Rattle.io.specs.Digits.{hex_digit_ascii, last_digits, IsDigitCount}
use Rattle.decimal.proofs.Recursion.{in_digits}
use Rattle.decimal.specs.Decimal.{decimal_in, decimal, signed_text}

last : (n : ℕ) → hex_digit_ascii (n % 10) ≡ 48 + n % 10
last n = rw (lt-ltb (n % 10) 10 (omega arith))

shown : (f k n : ℕ) → k ≤ f → IsDigitCount 10 1 n k → last_digits 10 k n ≡ decimal_in f n
unfolding decimal_in
shown f zero n h w = absurd (omega arith)
shown zero (suc k) n h w = absurd (omega arith)
shown (suc f) (suc zero) n h w =
    let l : n < 10 = omega (arith, pow-succ' 10 zero, pow-zero 10) in
    rw (lt-ltb n 10 l, last n, mod-eq_of_lt l)
shown (suc f) (suc (suc j)) n h w =
    let p : 10 ^ suc (suc j) ≡ 10 * (10 * 10 ^ j) = pow-succ' 10 (suc j) ∙ ap (λ (x : ℕ). 10 * x) (pow-succ' 10 j) in
    let q : 10 ^ suc j ≡ 10 * 10 ^ j = pow-succ' 10 j in
    let z : 10 ^ 0 ≤ 10 ^ j = pow-le-pow_right {n = 10} (omega arith) {i = 0} {j = j} (omega arith) in
    let a : suc (suc j) - 1 ≡ suc j = omega arith in
    let b : suc j - 1 ≡ j = omega arith in
    let m : 10 ^ suc j ≤ n = rw a at (w.2 (omega arith)) in
    let t : last_digits 10 (suc j) (n / 10) ≡ decimal_in f (n / 10) = shown f (suc j) (n / 10) (omega arith) (omega arith, omega arith, λ g. rw b (omega arith)) in
    rw (le-ltb n 10 (omega arith), last n) (ap (λ (r : List ℕ). r ++ ((48 + n % 10) ∷ [])) t)

pub as_decimal : (k n : ℕ) → n < 2 ^ 64 → IsDigitCount 10 1 n k → last_digits 10 k n ≡ decimal n
as_decimal k n h w = shown k k n (omega arith) w ∙ sym (in_digits k n w.0 w.1)

-- the sign and the size
pub signed : (z : ℤ) → signed_text z ≡ cond (lt_z z (pos 0)) (0x2D ∷ decimal (nat_abs z)) (decimal (nat_abs z))
unfolding signed_text
signed (pos n) = rw (le-ltb n 0 (omega arith))
signed (negsuc n) = refl
