-- Where a component cannot be read (document 02, No. 2): the first of its two pieces, "the amount of a component looked at before its unit",
-- that is none. The pieces are the Rust's: the amount piece is every byte up to the first that `not_interval_amount` tells, and the unit
-- piece follows it, glued or behind a white space character. The limit n is the most digits behind a point. `Rattle.place.specs.Pieces`
-- has the pieces as a relation. Assumes nothing.
use Rattle.std.specs.Prelude.{Bool, true, cond, ◌&&◌, ◌||◌, List, [], ◌∷◌, ℕ, suc, ◌+◌, eqb, ltb, length, take, drop}
use Rattle.text.specs.Digits.{is_digit}
use Rattle.white.specs.WhiteSpace.{white_len}
use Rattle.amount.specs.Scan.{amount_len}

-- a digit, a point or a minus
unfoldable pub in_amount : ℕ → Bool
in_amount b = is_digit b || (eqb b 0x2E || eqb b 0x2D)

-- every byte is one
unfoldable pub all_in_amount : List ℕ → Bool
all_in_amount [] = true
all_in_amount (b ∷ t) = in_amount b && all_in_amount t

-- how many of them a text begins with: the length of its amount piece
unfoldable pub piece_len : List ℕ → ℕ
piece_len [] = 0
piece_len (b ∷ t) = cond (in_amount b) (suc (piece_len t)) 0

-- a piece is an amount
unfoldable pub is_amount : ℕ → List ℕ → Bool
is_amount n a = ltb 0 (length a) && eqb (amount_len n a) (length a)

-- how many bytes of a text stand before the piece that is none: nothing where that is its amount
unfoldable pub fault : ℕ → List ℕ → ℕ
fault n t = cond (is_amount n (take (piece_len t) t)) (piece_len t + white_len (drop (piece_len t) t)) 0
