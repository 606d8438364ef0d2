-- What a column reads and why it refuses, as relations over the ten columns (document 01, "Dates and stamps", "Time of day" and "Refusals,
-- in checking order"). They stand on the relations of stamps, times of day and dates, and on `Numeral` and `Trimmed`.
-- `Rattle.column.proofs.Agreement` joins them to the computation `column`. Assumes nothing.
use Rattle.std.specs.Prelude.{◌≡◌, true, List, ℕ, ◌≤◌, ◌<◌, length, ℤ, pos, ◌*ℤ◌}
use Rattle.std.specs.Int.Signed.{quot_z}
use Rattle.date.specs.Grammar.{NamesDay, Reads as DateReads, Refuses as DateRefuses}
use Rattle.number.specs.Decimal.{Numeral}
use Rattle.number.specs.Widths.{in_type, floor}
use Rattle.text.specs.Trim.{Trimmed}
use Rattle.time.specs.Grammar.{Reads as TimeReads, Refuses as TimeRefuses}
use Rattle.datetime.specs.Moment.{Moment, instant}
use Rattle.stamp_text.specs.Meaning.{Names, Reads as StampReads, Refuses as StampRefuses}
use Rattle.column.specs.declared.Column.{Column}
use Rattle.column.specs.declared.Column.TheVariants.{TimestampNanosecond, TimestampMicrosecond, TimestampMillisecond, TimestampSecond, Time64Nanosecond, Time64Microsecond, Time32Millisecond, Time32Second, Date32, Date64}

-- "timestamp columns (nano, micro, milli, second)": each with its unit in nanoseconds
pub data TimestampColumn : Column → ℕ → Type 0 where
  nanoseconds : TimestampColumn TimestampNanosecond 1
  microseconds : TimestampColumn TimestampMicrosecond 1000
  milliseconds : TimestampColumn TimestampMillisecond 1000000
  seconds : TimestampColumn TimestampSecond 1000000000

-- "the four time columns (64-bit nano and micro, 32-bit milli and second)": each with its unit in nanoseconds and its bits
pub data TimeColumn : Column → ℕ → ℕ → Type 0 where
  nanoseconds_64 : TimeColumn Time64Nanosecond 1 64
  microseconds_64 : TimeColumn Time64Microsecond 1000 64
  milliseconds_32 : TimeColumn Time32Millisecond 1000000 32
  seconds_32 : TimeColumn Time32Second 1000000000 32

-- what the column's reader makes of a text as it stands
pub data ReaderReads : Column → List ℕ → ℤ → Type 0 where
  -- a timestamp column divides the nanoseconds toward zero
  of_stamp : {c : Column} {k : ℕ} {t : List ℕ} {z : ℤ} → TimestampColumn c k → StampReads t z → ReaderReads c t (quot_z z (pos k))
  -- and so does a time column
  of_time : {c : Column} {k bits : ℕ} {t : List ℕ} {z : ℤ} → TimeColumn c k bits → TimeReads t z → ReaderReads c t (quot_z z (pos k))
  -- Date32 is days since 1970-01-01
  of_date : {t : List ℕ} {z : ℤ} → DateReads t z → ReaderReads Date32 t z
  -- Date64 is milliseconds, rounded down: up to 10 bytes it reads a date
  up_to_ten : {t : List ℕ} {z : ℤ} → length t ≤ 10 → NamesDay t z → ReaderReads Date64 t (z *ℤ pos 86400000)
  -- beyond that a stamp
  beyond_ten : {t : List ℕ} (m : Moment) → 10 < length t → Names t m → ReaderReads Date64 t (floor (instant m) 1000000)

-- and why it refuses a text as it stands
pub data ReaderRefuses : Column → List ℕ → ℕ → Type 0 where
  no_stamp : {c : Column} {k : ℕ} {t : List ℕ} {n : ℕ} → TimestampColumn c k → StampRefuses t n → ReaderRefuses c t n
  no_time : {c : Column} {k bits : ℕ} {t : List ℕ} {n : ℕ} → TimeColumn c k bits → TimeRefuses t n → ReaderRefuses c t n
  no_date : {t : List ℕ} {n : ℕ} → DateRefuses t n → ReaderRefuses Date32 t n
  no_date_up_to_ten : {t : List ℕ} {n : ℕ} → length t ≤ 10 → DateRefuses t n → ReaderRefuses Date64 t n
  -- a stamp's refusals but 6: the nanoseconds need not fit
  no_stamp_beyond_ten : {t : List ℕ} {n : ℕ} → 10 < length t → StampRefuses t n → (n ≡ 6 → ⊥) → ReaderRefuses Date64 t n

-- what a column reads in the text as given: its reader's value; failing a time, a time column tries the text as a decimal integer with
-- optional sign, taken undivided, with no range but its width
pub data ReadsGiven : Column → List ℕ → ℤ → Type 0 where
  by_reader : {c : Column} {t : List ℕ} {z : ℤ} → ReaderReads c t z → ReadsGiven c t z
  integer_given : {c : Column} {k bits : ℕ} {t : List ℕ} {z : ℤ} → TimeColumn c k bits → ((y : ℤ) → TimeReads t y → ⊥) → Numeral true t z
      → in_type true bits z ≡ true → ReadsGiven c t z

-- "all columns but Date64 read the text as given, then trimmed"
pub data Reads : Column → List ℕ → ℤ → Type 0 where
  as_given : {c : Column} {t : List ℕ} {z : ℤ} → ReadsGiven c t z → Reads c t z
  once_trimmed : {c : Column} {t u : List ℕ} {z : ℤ} → (c ≡ Date64 → ⊥) → ((y : ℤ) → ReadsGiven c t y → ⊥) → Trimmed t u → ReaderReads c u z
      → Reads c t z

-- "where a column type tries the text again after trimming, the number of the trimmed attempt is given"
pub data Refuses : Column → List ℕ → ℕ → Type 0 where
  never_trimmed : {t : List ℕ} {n : ℕ} → ReaderRefuses Date64 t n → Refuses Date64 t n
  trimmed_too : {c : Column} {t u : List ℕ} {n : ℕ} → (c ≡ Date64 → ⊥) → ((y : ℤ) → ReadsGiven c t y → ⊥) → Trimmed t u → ReaderRefuses c u n
      → Refuses c t n
