-- The amount that a text begins with, computed from the left: how long it is, 0 for none, and what it says. The limit n is the most digits
-- behind a point. Assumes nothing.
use Rattle.std.specs.Prelude.{Bool, true, false, cond, List, [], ◌∷◌, ℕ, suc, ◌+◌, eqb, ltb, get_or, take, drop}
use Rattle.text.specs.Digits.{within, value, run}
use Rattle.number.specs.Widths.{signed}
use Rattle.amount.specs.Grammar.{whole_fits, Value, valued, scaled}

-- the text begins with a minus
unfoldable pub negative : List ℕ → Bool
negative t = eqb (get_or t 0 0) 0x2D

-- how many bytes a sign takes
unfoldable pub sign_len : Bool → ℕ
sign_len true = 1
sign_len false = 0

-- the length of an amount, 0 for none, where s bytes of sign and k digits, of a number that fits or not, stand before t
unfoldable pub point_len : (n s k : ℕ) → Bool → List ℕ → ℕ
point_len n s k false t = 0
point_len n s k true t =
    cond (eqb (get_or t 0 0) 0x2E)
    (cond (within 1 (run (drop 1 t)) n) (s + (k + suc (run (drop 1 t)))) 0)
    (cond (ltb 0 k) (s + k) 0)

-- the same, where only the sign, true for minus, stands before t
unfoldable pub digits_len : ℕ → Bool → List ℕ → ℕ
digits_len n neg t = point_len n (sign_len neg) (run t) (whole_fits neg (value 0 (take (run t) t))) (drop (run t) t)

-- the length of the amount that a text begins with, 0 for none
unfoldable pub amount_len : ℕ → List ℕ → ℕ
amount_len n t = digits_len n (negative t) (drop (sign_len (negative t)) t)

-- the fraction from the point on, times 10^n
unfoldable pub frac_of : ℕ → List ℕ → ℕ
frac_of n [] = 0
frac_of n (b ∷ f) = scaled n f

-- what is behind the sign, true for minus: digits as far as they go, then perhaps a point and the fraction
unfoldable pub unsigned_of : ℕ → Bool → List ℕ → Value
unsigned_of n neg t = valued (signed neg (value 0 (take (run t) t))) (signed neg (frac_of n (drop (run t) t)))

-- what an amount says; `Rattle.amount.proofs.AmountLaws.amount_agrees` says that it is the value of the grammar
unfoldable pub amount_of : ℕ → List ℕ → Value
amount_of n a = unsigned_of n (negative a) (drop (sign_len (negative a)) a)
