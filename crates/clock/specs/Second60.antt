-- Second 60, and second 59 in its place, of a clock, of a time and of a text. Assumes nothing.
use Rattle.std.specs.Prelude.{◌≡◌, false, List, ◌∷◌, ◌++◌, ℕ}
use Rattle.clock.specs.Clock.{Clock, clock}
use Rattle.clock.specs.declared.NaiveTime.{NaiveTime}

-- the clock with second 59
abbrev pub at_59 : Clock → Clock
at_59 c = clock c.hour c.minute 59 c.fraction

-- the time without its mark
abbrev pub unmarked : NaiveTime → NaiveTime
unmarked t = record { hour = t.hour; minute = t.minute; second = t.second; leap = false; nanos = t.nanos }

-- a text in which 60 stands, and the same text with 59 there
pub record In59 (t u : List ℕ) : Type 0 where
  pub before : List ℕ
  pub behind : List ℕ
  pub sixty : t ≡ before ++ (0x36 ∷ 0x30 ∷ behind)
  pub fifty_nine : u ≡ before ++ (0x35 ∷ 0x39 ∷ behind)
