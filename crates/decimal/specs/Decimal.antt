-- Numbers as text, computed: "a number is written as its quotient by ten, then its last digit" (document 02, No. 4). That this is the text of
-- NumberText.antt says the theorem `Rattle.decimal.proofs.Agreement.agrees`. Assumes nothing.
use Rattle.std.specs.Prelude.{cond, List, [], ◌∷◌, ◌++◌, ℕ, zero, suc, ◌+◌, ◌/◌, ◌%◌, ◌^◌, ltb, ℤ, pos, negsuc}

-- the digits of a number that has at most k: of one below ten its digit, of any other those of its quotient by ten and then its last
unfoldable pub decimal_in : ℕ → ℕ → List ℕ
decimal_in zero n = []
decimal_in (suc k) n = cond (ltb n 10) ((48 + n) ∷ []) (decimal_in k (n / 10) ++ ((48 + n % 10) ∷ []))

-- the digits of a number, of which there are at most 20, and one more for each time that 10^20 goes into it
unfoldable pub decimal : ℕ → List ℕ
decimal n = decimal_in (20 + n / 10 ^ 20) n

-- a signed number: the digits of its size, behind a minus where it is negative
unfoldable pub signed_text : ℤ → List ℕ
signed_text (pos n) = decimal n
signed_text (negsuc n) = 0x2D ∷ decimal (suc n)
