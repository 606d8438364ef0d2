-- What the functions behind the narrowed readers find on the way: no reader's contract names any of it. Assumes nothing.
use Rattle.std.specs.Prelude.{cond, ◌%◌, eqb, ℤ, pos, nat_abs, ◌+ℤ◌, ◌*ℤ◌, Option, None, Some, option_map}
use Rattle.std.specs.Int.Signed.{quot_z}
use Rattle.number.specs.Widths.{in_signed, fit}
use Rattle.rule.specs.Meaning.{DayTime, day_time_of}
use Rattle.interval.specs.declared.IntervalDayTime.{IntervalDayTime}

-- months times 30 plus days, if each step fits 32 bits
unfoldable pub in_days : ℤ → ℤ → Option ℤ
in_days m d = cond (in_signed 31 (m *ℤ pos 30)) (fit 31 (m *ℤ pos 30 +ℤ d)) None

-- nanoseconds over 1,000,000, if that divides them and the quotient fits 32 bits
unfoldable pub in_millis : ℤ → Option ℤ
in_millis n = cond (eqb (nat_abs n % 1_000_000) 0) (fit 31 (quot_z n (pos 1_000_000))) None

-- days and milliseconds, or none
abbrev pub maybe_day_time : Option IntervalDayTime → Option DayTime
maybe_day_time = option_map (λ v. day_time_of v.days.0 v.millis.0)

-- both, if there are both
unfoldable pub day_time_if : Option ℤ → Option ℤ → Option DayTime
day_time_if None m = None
day_time_if (Some d) None = None
day_time_if (Some d) (Some m) = Some (day_time_of d m)
