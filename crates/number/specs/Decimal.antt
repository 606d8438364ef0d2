-- Decimal integers as Rust's `str::parse` takes them (the standard library's page of `from_str` for the integer types): an optional
-- plus, or for a signed type a minus, then one or more digits, leading zeros allowed, and nothing else; the number must be one of
-- the type. Document 01 names it for the years, months and days of signed dates, for interval amounts and for the time columns.
-- `Numeral` says which number a text writes, `numeral` computes it, and the theorem `Rattle.number.proofs.Agreement.agrees` joins them.
-- Assumes nothing.
use Rattle.std.specs.Prelude.{◌≡◌, Bool, true, false, cond, ◌&&◌, List, [], ◌∷◌, ℕ, eqb, ℤ, pos, Option, None, Some}
use Rattle.text.specs.Digits.{is_digit, digits, value}
use Rattle.number.specs.Widths.{in_type, signed, keep}

-- one or more digits
pub data Digits : List ℕ → Type 0 where
  one_or_more : {b : ℕ} {t : List ℕ} → is_digit b ≡ true → digits t ≡ true → Digits (b ∷ t)

-- a text and the number that it writes, for a signed type or for one without sign
pub data Numeral (sign : Bool) : List ℕ → ℤ → Type 0 where
  plain : {t : List ℕ} → Digits t → Numeral sign t (pos (value 0 t))
  plus : {t : List ℕ} → Digits t → Numeral sign (0x2B ∷ t) (pos (value 0 t))
  minus : {t : List ℕ} → sign ≡ true → Digits t → Numeral sign (0x2D ∷ t) (signed true (value 0 t))

-- the number of one or more digits after a sign, true for minus
abbrev pub unsigned : Bool → List ℕ → Option ℤ
unsigned neg [] = None
unsigned neg (b ∷ t) = cond (is_digit b && digits t) (Some (signed neg (value 0 (b ∷ t)))) None

-- the number that a text writes, if it writes one
abbrev pub numeral : Bool → List ℕ → Option ℤ
numeral sign [] = None
numeral sign (b ∷ t) =
    cond (eqb b 0x2B) (unsigned false t) (cond (sign && eqb b 0x2D) (unsigned true t) (unsigned false (b ∷ t)))

-- `str::parse` for the integer type with that many bits, signed or not
abbrev pub integer : Bool → ℕ → List ℕ → Option ℤ
integer sign bits t = keep (in_type sign bits) (numeral sign t)
