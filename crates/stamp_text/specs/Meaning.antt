-- What a stamp names, as relations: a text of the grammar whose date is a day of the calendar and whose time and offset are in range names a
-- moment in UTC, and is read as the nanoseconds of its instant where they fit 64 signed bits; and why any other text is refused.
-- `Rattle.stamp_text.proofs.Agreement` and `Refusals` join this to the computation. Assumes nothing.
use Rattle.std.specs.Prelude.{◌≡◌, true, false, ◌⊎◌, List, [], ◌∷◌, ◌++◌, ℕ, take, ℤ, pos, Some}
use Rattle.calendar.specs.Calendar.{civil}
use Rattle.number.specs.Widths.{in_signed}
use Rattle.text.specs.Digits.{is_digit, digits, value}
use Rattle.utf8.specs.Utf8.{Utf8}
use Rattle.clock.specs.Clock.{Clock, clock, in_range, held_clock}
use Rattle.clock.specs.Grammar.{Figures, Secfrac, no_digits}
use Rattle.datetime.specs.Moment.{Moment, moment, instant}
use Rattle.offset.specs.declared.Offset.{Offset}
use Rattle.offset.specs.Grammar.{utc, TimeNumoffset, Ending}
use Rattle.offset.specs.Utc.{in_range as offset_in_range, InUtc}
use Rattle.stamp_text.specs.Grammar.{Ymd, FullDate, Separator, Stamp}

-- RFC 3339, section 5.6: time-offset = "Z" / time-numoffset, with Z in either case
pub data TimeOffset : List ℕ → Offset → Type 0 where
  zulu : (z : ℕ) → (z ≡ 0x5A) ⊎ (z ≡ 0x7A) → TimeOffset (z ∷ []) utc
  numeric : {t : List ℕ} {o : Offset} → TimeNumoffset t o → TimeOffset t o

-- its own date-time: full-date "T" partial-time time-offset, the letter in either case, with colons
pub data Rfc3339 : List ℕ → Ymd → Clock → Offset → Type 0 where
  date_time : (a h m s x f e : List ℕ) (t : ℕ) {d : Ymd} {o : Offset} → FullDate a d → (t ≡ 0x54) ⊎ (t ≡ 0x74) → Figures 2 h → Figures 2 m
      → Figures 2 s → Secfrac x f → TimeOffset e o
      → Rfc3339 (a ++ (t ∷ ((h ++ (0x3A ∷ (m ++ (0x3A ∷ (s ++ x))))) ++ e))) d (clock (value 0 h) (value 0 m) (value 0 s) f) o

-- a text and the moment that it names: its day and time are local, and the moment is in UTC
pub data Names : List ℕ → Moment → Type 0 where
  names : {t : List ℕ} {d : Ymd} {c : Clock} {o : Offset} {m : Moment} (z : ℤ) → Stamp t d c o → civil (pos d.year) d.month d.day ≡ Some z
      → in_range c.hour c.minute c.second ≡ true → offset_in_range o ≡ true → InUtc (moment z (held_clock c)) o m → Names t m

-- a text and the nanoseconds that it is read as
pub data Reads : List ℕ → ℤ → Type 0 where
  reads : {t : List ℕ} (m : Moment) → Names t m → in_signed 63 (instant m) ≡ true → Reads t (instant m)

-- the bytes of a date that the calendar has, and its day
pub data Dated : List ℕ → ℤ → Type 0 where
  dated : {a : List ℕ} {d : Ymd} (z : ℤ) → FullDate a d → civil (pos d.year) d.month d.day ≡ Some z → Dated a z

-- a text, the time that it begins with, all of it and in range, and the bytes r after it (document 01, "Dates and stamps")
pub data LongestTime : List ℕ → Clock → List ℕ → Type 0 where
  -- hh:mm:ss, and no point after it
  whole : (h m s r : List ℕ) → Figures 2 h → Figures 2 m → Figures 2 s → in_range (value 0 h) (value 0 m) (value 0 s) ≡ true
      → ((q : List ℕ) → r ≡ 0x2E ∷ q → ⊥) → LongestTime (h ++ (0x3A ∷ (m ++ (0x3A ∷ (s ++ r))))) (clock (value 0 h) (value 0 m) (value 0 s) []) r
  -- hh:mm:ss, a point and one or more digits, and no digit after them
  parted : (h m s : List ℕ) (b : ℕ) (f r : List ℕ) → Figures 2 h → Figures 2 m → Figures 2 s → is_digit b ≡ true → digits f ≡ true
      → in_range (value 0 h) (value 0 m) (value 0 s) ≡ true → no_digits (take 1 r) ≡ true
      → LongestTime (h ++ (0x3A ∷ (m ++ (0x3A ∷ (s ++ (0x2E ∷ b ∷ (f ++ r))))))) (clock (value 0 h) (value 0 m) (value 0 s) (b ∷ f)) r
  -- hhmmss, and no digit in the two bytes after it
  compact : (h m s r : List ℕ) → Figures 2 h → Figures 2 m → Figures 2 s → in_range (value 0 h) (value 0 m) (value 0 s) ≡ true
      → no_digits (take 2 r) ≡ true → LongestTime (h ++ (m ++ (s ++ r))) (clock (value 0 h) (value 0 m) (value 0 s) []) r

-- a text and the number of its refusal, the first of the list that holds: 4 where no time stands behind the separator, 5 where bytes follow the
-- time that are no ending, 15 where they are one with an offset out of range
pub data Refuses : List ℕ → ℕ → Type 0 where
  not_utf8 : {t : List ℕ} → (Utf8 t → ⊥) → Refuses t 1
  no_date : {t : List ℕ} → Utf8 t → ((a r : List ℕ) (z : ℤ) → t ≡ a ++ r → Dated a z → ⊥) → Refuses t 2
  no_separator : (a r : List ℕ) (b : ℕ) (z : ℤ) → Utf8 (a ++ (b ∷ r)) → Dated a z → (Separator b → ⊥) → Refuses (a ++ (b ∷ r)) 3
  no_time : (a r : List ℕ) (s : ℕ) (z : ℤ) → Utf8 (a ++ (s ∷ r)) → Dated a z → Separator s → ((c : Clock) (e : List ℕ) → LongestTime r c e → ⊥)
      → Refuses (a ++ (s ∷ r)) 4
  more_after : (a r e : List ℕ) (s : ℕ) (z : ℤ) (c : Clock) → Utf8 (a ++ (s ∷ r)) → Dated a z → Separator s → LongestTime r c e
      → ((o : Offset) → Ending e o → ⊥) → Refuses (a ++ (s ∷ r)) 5
  no_offset : (a r e : List ℕ) (s : ℕ) (z : ℤ) (c : Clock) (o : Offset) → Utf8 (a ++ (s ∷ r)) → Dated a z → Separator s → LongestTime r c e
      → Ending e o → offset_in_range o ≡ false → Refuses (a ++ (s ∷ r)) 15
  out_of_range : {t : List ℕ} (m : Moment) → Names t m → in_signed 63 (instant m) ≡ false → Refuses t 6
