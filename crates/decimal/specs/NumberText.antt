-- The text that a number is written as, as a relation: its decimal digits with no zeros in front, behind a minus where it is negative (document
-- 02, No. 4, which writes no plus and no other sign). The reader's numerals (number: `Decimal.Numeral`) may have a plus, zeros in front or a minus
-- before 0. Decimal.antt computes it, and the theorem `Rattle.decimal.proofs.Agreement.agrees` says that it is this one. Assumes nothing.
use Rattle.std.specs.Prelude.{◌≡◌, true, List, [], ◌∷◌, ℕ, ℤ, pos}
use Rattle.text.specs.Digits.{within, digits, value}
use Rattle.number.specs.Widths.{signed}

-- digits, of which the first is 1 to 9
pub data NoZeroInFront : List ℕ → Type 0 where
  leading : {b : ℕ} {d : List ℕ} → within 0x31 b 0x39 ≡ true → digits d ≡ true → NoZeroInFront (b ∷ d)

-- a number and its text
pub data NumberText : ℤ → List ℕ → Type 0 where
  zero_digit : NumberText (pos 0) (0x30 ∷ [])
  plain : {d : List ℕ} → NoZeroInFront d → NumberText (pos (value 0 d)) d
  minus : {d : List ℕ} → NoZeroInFront d → NumberText (signed true (value 0 d)) (0x2D ∷ d)
