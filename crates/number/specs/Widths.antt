-- Numbers of a width, signed or not, and what the answers of `number` say of them. Assumes nothing.
use Rattle.std.specs.Prelude.{Bool, true, false, cond, ℕ, ◌-◌, ◌/◌, ◌^◌, ltb, ℤ, pos, negsuc, neg_ℤ, Option, None, Some}
use Rattle.std.specs.Int.Signed.{mag}

-- z is a number of k + 1 signed bits, from -2^k to 2^k - 1: `mag z` is n both for n and for -(n + 1)
abbrev pub in_signed : ℕ → ℤ → Bool
in_signed k z = ltb (mag z) (2 ^ k)

-- z is a number of k unsigned bits, from 0 to 2^k - 1
abbrev pub in_unsigned : ℕ → ℤ → Bool
in_unsigned k (pos n) = ltb n (2 ^ k)
in_unsigned k (negsuc n) = false

-- z is a number of the type with that many bits, signed or not
abbrev pub in_type : Bool → ℕ → ℤ → Bool
in_type true bits z = in_signed (bits - 1) z
in_type false bits z = in_unsigned bits z

-- a number, where it passes a test
abbrev pub keep : (ℤ → Bool) → Option ℤ → Option ℤ
keep test None = None
keep test (Some z) = cond (test z) (Some z) None

-- z, where it is a number of k + 1 signed bits
abbrev pub fit : ℕ → ℤ → Option ℤ
fit k z = keep (in_signed k) (Some z)

-- the number with a sign, true for minus, and a size
abbrev pub signed : Bool → ℕ → ℤ
signed true m = neg_ℤ (pos m)
signed false m = pos m

-- the quotient by m rounded down: -(a + 1) lies in the m numbers from -(a / m + 1) * m on
abbrev pub floor : ℤ → ℕ → ℤ
floor (pos a) m = pos (a / m)
floor (negsuc a) m = negsuc (a / m)
