-- The texts of stamps, as relations: RFC 3339, section 5.6, as document 01 ("Dates and stamps") and document 02, No. 6, narrow and widen it.
-- The offset is of `Rattle.offset.specs.Grammar`; a date may stand alone; the separator may be a space; the time may have no colons, and
-- then no fraction. Assumes nothing.
use Rattle.std.specs.Prelude.{◌≡◌, true, List, [], ◌∷◌, ◌++◌, ℕ, length, take}
use Rattle.text.specs.Digits.{value}
use Rattle.clock.specs.Clock.{Clock, clock}
use Rattle.clock.specs.Grammar.{Figures, Secfrac, no_digits}
use Rattle.offset.specs.declared.Offset.{Offset}
use Rattle.offset.specs.Grammar.{utc, Ending}

-- a date as a text writes it
pub record Ymd : Type 0 where
  pub year : ℕ
  pub month : ℕ
  pub day : ℕ

-- full-date = date-fullyear "-" date-month "-" date-mday, of 4, 2 and 2 digits
pub data FullDate : List ℕ → Ymd → Type 0 where
  full_date : (y m d : List ℕ) → Figures 4 y → Figures 2 m → Figures 2 d
      → FullDate (y ++ (0x2D ∷ (m ++ (0x2D ∷ d)))) (record { year = value 0 y; month = value 0 m; day = value 0 d })

-- partial-time = time-hour ":" time-minute ":" time-second [time-secfrac]; and ISO 8601's basic format without a fraction
pub data PartialTime : List ℕ → Clock → Type 0 where
  colons : (h m s x f : List ℕ) → Figures 2 h → Figures 2 m → Figures 2 s → Secfrac x f
      → PartialTime (h ++ (0x3A ∷ (m ++ (0x3A ∷ (s ++ x))))) (clock (value 0 h) (value 0 m) (value 0 s) f)
  basic : (h m s : List ℕ) → Figures 2 h → Figures 2 m → Figures 2 s
      → PartialTime (h ++ (m ++ s)) (clock (value 0 h) (value 0 m) (value 0 s) [])

-- "T", which RFC 3339 takes in either case, or a space (its section 5.6, the last note)
pub data Separator : ℕ → Type 0 where
  capital : Separator 0x54
  small : Separator 0x74
  space : Separator 0x20

-- document 01: after hhmmss, which is 6 bytes, the two following bytes are no digits, so that white space stands before its numeric offset
abbrev pub Apart : List ℕ → List ℕ → Type 0
Apart b e = length b ≡ 6 → no_digits (take 2 e) ≡ true

-- a text and the date, the time and the offset that it writes; a date alone means midnight, in UTC
pub data Stamp : List ℕ → Ymd → Clock → Offset → Type 0 where
  date_alone : {t : List ℕ} {d : Ymd} → FullDate t d → Stamp t d (clock 0 0 0 []) utc
  date_time : (a b e : List ℕ) (s : ℕ) {d : Ymd} {c : Clock} {o : Offset} → FullDate a d → Separator s → PartialTime b c → Ending e o → Apart b e
      → Stamp (a ++ (s ∷ (b ++ e))) d c o
