-- What a component contributes: document 01, "Interval grammar", the table of units. A fraction goes to the count that the table names,
-- cut toward zero, and no further. PostgreSQL 15, section 8.5.4, instead rounds fractions of a year to months, and spills those of a
-- month into days and microseconds and those of a week into days. The limit n is the most digits behind a point. Assumes nothing.
use Rattle.std.specs.Prelude.{Bool, ◌&&◌, ℕ, ◌^◌, ℤ, pos, ◌+ℤ◌, ◌*ℤ◌}
use Rattle.std.specs.Int.Signed.{quot_z}
use Rattle.number.specs.Widths.{in_signed}
use Rattle.amount.specs.Grammar.{Value}
use Rattle.unit.specs.declared.IntervalUnit.{IntervalUnit}
use Rattle.unit.specs.declared.IntervalUnit.TheVariants.{Century, Decade, Year, Month, Week, Day, Hour, Minute, Second, Millisecond, Microsecond, Nanosecond}

-- the three counts, each apart
pub record Counts : Type 0 where
  pub months : ℤ
  pub days : ℤ
  pub nanos : ℤ

-- some of them
abbrev pub counts : ℤ → ℤ → ℤ → Counts
counts m d n = record { months = m; days = d; nanos = n }

-- "a times" k, "cut toward zero"; an amount counts its whole part and the fraction, which is kept times 10^n
unfoldable pub times : ℕ → ℕ → Value → ℤ
times n k a = quot_z ((a.integer *ℤ pos (10 ^ n) +ℤ a.frac) *ℤ pos k) (pos (10 ^ n))

-- "whole part times" k
unfoldable pub whole_times : ℕ → Value → ℤ
whole_times k a = a.integer *ℤ pos k

-- "fraction times" k, "cut"
unfoldable pub frac_times : ℕ → ℕ → Value → ℤ
frac_times n k a = quot_z (a.frac *ℤ pos k) (pos (10 ^ n))

-- document 01's table
unfoldable pub contribution : ℕ → IntervalUnit → Value → Counts
contribution n Century a = counts (times n 1200 a) (pos 0) (pos 0)
contribution n Decade a = counts (times n 120 a) (pos 0) (pos 0)
contribution n Year a = counts (times n 12 a) (pos 0) (pos 0)
contribution n Month a = counts (whole_times 1 a) (frac_times n 30 a) (pos 0)
contribution n Week a = counts (pos 0) (whole_times 7 a) (frac_times n 604_800_000_000_000 a)
contribution n Day a = counts (pos 0) (whole_times 1 a) (frac_times n 86_400_000_000_000 a)
contribution n Hour a = counts (pos 0) (pos 0) (times n 3_600_000_000_000 a)
contribution n Minute a = counts (pos 0) (pos 0) (times n 60_000_000_000 a)
contribution n Second a = counts (pos 0) (pos 0) (times n 1_000_000_000 a)
contribution n Millisecond a = counts (pos 0) (pos 0) (times n 1_000_000 a)
contribution n Microsecond a = counts (pos 0) (pos 0) (times n 1_000 a)
contribution n Nanosecond a = counts (pos 0) (pos 0) (times n 1 a)

-- ---- sums

-- months and days fit 32 signed bits, nanoseconds 64
unfoldable pub fits : Counts → Bool
fits c = in_signed 31 c.months && (in_signed 31 c.days && in_signed 63 c.nanos)

-- the sum, "count by count"
unfoldable pub plus : Counts → Counts → Counts
plus c k = counts (c.months +ℤ k.months) (c.days +ℤ k.days) (c.nanos +ℤ k.nanos)

-- "running totals start at 0, 0, 0"
abbrev pub zeros : Counts
zeros = counts (pos 0) (pos 0) (pos 0)
