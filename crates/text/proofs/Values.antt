-- How large the number of some digits is. Assumes nothing.
use Rattle.std.proofs.Common.{◌≡◌, ℕ, ◌+◌, ◌*◌, ◌^◌, ◌<◌, ◌≤◌, true, List, [], ◌∷◌, length, mul-le-mul_right, mul_assoc, arith}
use native.Mathlib.Nat.{one-le-pow, pow-succ'}
use Rattle.text.specs.Digits.{is_digit, worth, digits, value}
use Rattle.text.proofs.Bools.{and_left, and_right, within_is}

pub ten_pos : (n : ℕ) → 0 < 10 ^ n
ten_pos n = one-le-pow n 10 (omega arith)

-- k digits behind the number a write a number below (a + 1) * 10^k
pub value_most : (t : List ℕ) (a : ℕ) → digits t ≡ true → value a t + 1 ≤ (a + 1) * 10 ^ length t
unfolding digits value
value_most [] a e = omega arith
value_most (b ∷ t) a e =
    let r = within_is 0x30 b 0x39 (and_left (is_digit b) (digits t) e) in
    let m : (a * 10 + worth b + 1) * 10 ^ length t ≤ ((a + 1) * 10) * 10 ^ length t = mul-le-mul_right (10 ^ length t) (omega arith) in
    rw (pow-succ' 10 (length t), ← mul_assoc (a + 1) 10 (10 ^ length t))
    (omega (arith, value_most t (a * 10 + worth b) (and_right (is_digit b) (digits t) e)))

-- k digits write a number below 10^k
pub value_below : (t : List ℕ) → digits t ≡ true → value 0 t < 10 ^ length t
value_below t e = omega (arith, value_most t 0 e)
