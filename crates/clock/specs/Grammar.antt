-- The digits of times and dates, as relations: RFC 3339, section 5.6, writes each field as a number of digits, and a fraction of a second as
-- a point and digits. Assumes nothing.
use Rattle.std.specs.Prelude.{◌≡◌, Bool, true, not, ◌&&◌, List, [], ◌∷◌, ℕ, length}
use Rattle.text.specs.Digits.{is_digit, digits}

-- nDIGIT: a number of n digits
pub data Figures (n : ℕ) : List ℕ → Type 0 where
  figures : {t : List ℕ} → length t ≡ n → digits t ≡ true → Figures n t

-- [time-secfrac], with time-secfrac = "." 1*DIGIT: the bytes, and the digits behind the point
pub data Secfrac : List ℕ → List ℕ → Type 0 where
  no_fraction : Secfrac [] []
  fraction : {b : ℕ} {f : List ℕ} → is_digit b ≡ true → digits f ≡ true → Secfrac (0x2E ∷ b ∷ f) (b ∷ f)

-- no byte is a digit
unfoldable pub no_digits : List ℕ → Bool
no_digits [] = true
no_digits (b ∷ t) = not (is_digit b) && no_digits t
