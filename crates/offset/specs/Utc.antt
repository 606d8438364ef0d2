-- UTC is local time less the offset (RFC 3339, sections 4.2 and 5.6). Assumes nothing.
use Rattle.std.specs.Prelude.{◌≡◌, Bool, ◌&&◌, ℕ, ◌+◌, ◌*◌, ◌<◌, leb, ℤ, pos, ◌+ℤ◌, ◌-ℤ◌, ◌*ℤ◌}
use Rattle.number.specs.Widths.{signed}
use Rattle.clock.specs.declared.NaiveTime.{NaiveTime}
use Rattle.datetime.specs.Moment.{Moment, moment}
use Rattle.offset.specs.declared.Offset.{Offset}

-- section 5.6: time-hour is 00 to 23, time-minute 00 to 59
abbrev pub in_range : Offset → Bool
in_range o = leb o.hour 23 && leb o.minute 59

-- section 4.2: an offset is local time minus UTC; in minutes
abbrev pub ahead : Offset → ℤ
ahead o = signed o.minus (o.hour * 60 + o.minute)

-- minutes since 1970-01-01T00:00 of a day and of an hour and a minute of it
abbrev pub minutes : ℤ → ℕ → ℕ → ℤ
minutes z h m = z *ℤ pos 1440 +ℤ pos (h * 60 + m)

-- the time with another hour and minute: the second, the mark and the nanoseconds stay (document 02, No. 6, of second 60)
abbrev pub with_minute : ℕ → ℕ → NaiveTime → NaiveTime
with_minute h m t = record { hour = h; minute = m; second = t.second; leap = t.leap; nanos = t.nanos }

-- a local moment, an offset, and the moment in UTC: its minutes are the local ones less the offset
pub data InUtc : Moment → Offset → Moment → Type 0 where
  in_utc : {x : Moment} {o : Offset} (z : ℤ) (h m : ℕ) → h < 24 → m < 60
      → minutes z h m ≡ minutes x.day x.time.hour x.time.minute -ℤ ahead o → InUtc x o (moment z (with_minute h m x.time))
