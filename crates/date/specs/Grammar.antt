-- The texts of dates, as relations (document 01, "Dates and stamps"). Of the unsigned forms RFC 3339 has yyyy-mm-dd alone and ISO 8601
-- yyyymmdd too; the signed form is ISO 8601's expanded representation, with the month and the day as Rust's integers. And why any other
-- text is refused. Assumes nothing.
use Rattle.std.specs.Prelude.{◌≡◌, true, false, List, ◌∷◌, ◌++◌, ℕ, ◌≤◌, ◌<◌, length, ℤ, pos, Some}
use Rattle.calendar.specs.Calendar.{civil}
use Rattle.number.specs.Widths.{in_signed, in_unsigned}
use Rattle.number.specs.Decimal.{Numeral}
use Rattle.text.specs.Digits.{digits, value}
use Rattle.utf8.specs.Utf8.{Utf8, utf8}
use Rattle.clock.specs.Grammar.{Figures, no_digits}
use Rattle.datetime.specs.Moment.{Moment}
use Rattle.stamp_text.specs.Meaning.{Names, Refuses as StampRefuses}

-- one or two digits
pub data OneOrTwo : List ℕ → Type 0 where
  one : {t : List ℕ} → Figures 1 t → OneOrTwo t
  two : {t : List ℕ} → Figures 2 t → OneOrTwo t

-- a plus or a minus
pub data Sign : ℕ → Type 0 where
  plus : Sign 0x2B
  minus : Sign 0x2D

-- a text and the year, the month and the day that it writes
pub data DateText : List ℕ → ℤ → ℕ → ℕ → Type 0 where
  -- yyyymmdd
  compact : (y m d : List ℕ) → Figures 4 y → Figures 2 m → Figures 2 d → DateText (y ++ (m ++ d)) (pos (value 0 y)) (value 0 m) (value 0 d)
  -- yyyy-m-d with one or two digits for month and day; bytes after it, up to 10 in all, that are no digits are ignored
  hyphens : (y m d i : List ℕ) → Figures 4 y → OneOrTwo m → OneOrTwo d → no_digits i ≡ true → length (y ++ (0x2D ∷ (m ++ (0x2D ∷ (d ++ i))))) ≤ 10
      → DateText (y ++ (0x2D ∷ (m ++ (0x2D ∷ (d ++ i))))) (pos (value 0 y)) (value 0 m) (value 0 d)
  -- a sign, a year of four or more digits that fits 32 signed bits, a month and a day that are unsigned 32-bit integers
  signed : (s : ℕ) (y m d : List ℕ) {z : ℤ} {n k : ℕ} → Sign s → 4 ≤ length y → digits y ≡ true → Numeral true (s ∷ y) z → in_signed 31 z ≡ true
      → Numeral false m (pos n) → in_unsigned 32 (pos n) ≡ true → Numeral false d (pos k) → in_unsigned 32 (pos k) ≡ true
      → DateText (s ∷ (y ++ (0x2D ∷ (m ++ (0x2D ∷ d))))) z n k

-- a text and the day that it names: a date, or a stamp of more than 10 bytes, of which the day in UTC counts
pub data NamesDay : List ℕ → ℤ → Type 0 where
  of_date : {t : List ℕ} {y : ℤ} {m d : ℕ} (z : ℤ) → DateText t y m d → utf8 t ≡ true → civil y m d ≡ Some z → NamesDay t z
  of_stamp : {t : List ℕ} (x : Moment) → Names t x → 10 < length t → NamesDay t x.day

-- a text and the day that Date32 holds
pub data Reads : List ℕ → ℤ → Type 0 where
  reads : {t : List ℕ} {z : ℤ} → NamesDay t z → in_signed 31 z ≡ true → Reads t z

-- a text that is read as a date: it begins with a sign, or has at most 10 bytes; any other is read as a stamp
pub data DateForm : List ℕ → Type 0 where
  with_sign : (s : ℕ) (t : List ℕ) → Sign s → DateForm (s ∷ t)
  within_ten : {t : List ℕ} → length t ≤ 10 → DateForm t

-- a text and the number of its refusal, the first of the list that holds; a stamp's own range, 6, is no reason here
pub data Refuses : List ℕ → ℕ → Type 0 where
  not_utf8 : {t : List ℕ} → (Utf8 t → ⊥) → Refuses t 1
  no_date : {t : List ℕ} → Utf8 t → DateForm t → ((z : ℤ) → NamesDay t z → ⊥) → Refuses t 2
  as_stamp : {t : List ℕ} {n : ℕ} → (DateForm t → ⊥) → StampRefuses t n → (n ≡ 6 → ⊥) → Refuses t n
  out_of_range : {t : List ℕ} (z : ℤ) → NamesDay t z → in_signed 31 z ≡ false → Refuses t 6
