-- A moment, which is a day and a time of it, and its instant. Assumes nothing.
use Rattle.std.specs.Prelude.{ℕ, ℤ, pos, ◌+ℤ◌, ◌*ℤ◌}
use Rattle.clock.specs.Clock.{nanos_of_day}
use Rattle.clock.specs.declared.NaiveTime.{NaiveTime}
use Rattle.datetime.specs.declared.NaiveDateTime.{NaiveDateTime}

-- a day, counted from 1970-01-01, and a time of it
abbrev pub Moment : Type 0
Moment = NaiveDateTime

abbrev pub moment : ℤ → NaiveTime → Moment
moment z t = record { day = z; time = t }

-- nanoseconds since 1970-01-01T00:00:00Z, of a day and of nanoseconds since its midnight
abbrev pub instant_at : ℤ → ℕ → ℤ
instant_at z n = z *ℤ pos 86400000000000 +ℤ pos n

abbrev pub instant : Moment → ℤ
instant m = instant_at m.day (nanos_of_day m.time)
