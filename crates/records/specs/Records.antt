-- Arrow's two records of an interval (document 02, No. 8), by their bytes, and which new record an old one goes to. Assumes nothing.
use Rattle.std.specs.Prelude.{List, ◌++◌, ℕ, ℤ, pos, ◌*ℤ◌}
use Rattle.little_endian.specs.Holds.{Holds}
use Rattle.rule.specs.Contribution.{Counts, counts}
use Rattle.rule.specs.Meaning.{DayTime, day_time_of}

-- "Arrow's 8-byte day-time record: days, then milliseconds, 32 signed bits each, little endian"
pub data DayTimeRecord : List ℕ → DayTime → Type 0 where
  day_time : {days millis : List ℕ} {d m : ℤ} → Holds 4 days d → Holds 4 millis m → DayTimeRecord (days ++ millis) (day_time_of d m)

-- "the 16-byte record: months, days and nanoseconds in 32, 32 and 64 bits, likewise"
pub data MonthDayNanoRecord : List ℕ → Counts → Type 0 where
  month_day_nano : {months days nanos : List ℕ} {m d n : ℤ} → Holds 4 months m → Holds 4 days d → Holds 8 nanos n
      → MonthDayNanoRecord (months ++ (days ++ nanos)) (counts m d n)

-- "Every old record goes, with months 0, its days, and its milliseconds times 1,000,000"; "months are not turned into 30 days here"
pub data Same : DayTime → Counts → Type 0 where
  same : {d m : ℤ} → Same (day_time_of d m) (counts (pos 0) d (m *ℤ pos 1_000_000))

-- an old record and the new one of the same interval. So a new one has no old one where its months are not 0, where its nanoseconds are no
-- number of milliseconds times 1,000,000, or where 32 bits do not hold that number
pub data Converts : List ℕ → List ℕ → Type 0 where
  converts : {old new : List ℕ} {x : DayTime} {c : Counts} → DayTimeRecord old x → MonthDayNanoRecord new c → Same x c → Converts old new

-- the way back
abbrev pub ConvertsBack : List ℕ → List ℕ → Type 0
ConvertsBack new old = Converts old new
