-- What the answers of `count` say: a count of its kind, or none. Assumes nothing.
use Rattle.std.specs.Prelude.{Option, option_map, ℤ}
use Rattle.count.specs.declared.Days.{Days}
use Rattle.count.specs.declared.Millis.{Millis}
use Rattle.count.specs.declared.Months.{Months}
use Rattle.count.specs.declared.Nanos.{Nanos}

-- the months that fit, or none
abbrev pub maybe_months : Option Months → Option ℤ
maybe_months = option_map (λ n. n.0)

-- the days that fit, or none
abbrev pub maybe_days : Option Days → Option ℤ
maybe_days = option_map (λ n. n.0)

-- the nanoseconds that fit, or none
abbrev pub maybe_nanos : Option Nanos → Option ℤ
maybe_nanos = option_map (λ n. n.0)

-- the milliseconds that fit, or none
abbrev pub maybe_millis : Option Millis → Option ℤ
maybe_millis = option_map (λ n. n.0)
