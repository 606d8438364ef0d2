-- A time of day as a text writes it (RFC 3339, sections 5.6 and 5.7; ISO 8601), and as it is held. Document 01 widens the RFC: second 60 in
-- any minute, and any number of fraction digits, of which nine count. Assumes nothing.
use Rattle.std.specs.Prelude.{◌≡◌, Bool, true, cond, ◌&&◌, List, ℕ, ◌+◌, ◌-◌, ◌*◌, ◌^◌, ◌<◌, eqb, leb, length, take}
use Rattle.text.specs.Digits.{value}
use Rattle.clock.specs.declared.NaiveTime.{NaiveTime}

-- hour, minute, second, and the digits behind the point, none where there is no point
pub record Clock : Type 0 where
  pub hour : ℕ
  pub minute : ℕ
  pub second : ℕ
  pub fraction : List ℕ

abbrev pub clock : ℕ → ℕ → ℕ → List ℕ → Clock
clock h m s f = record { hour = h; minute = m; second = s; fraction = f }

-- document 01: hours 0 to 23, minutes 0 to 59, seconds 0 to 60
abbrev pub in_range : ℕ → ℕ → ℕ → Bool
in_range h m s = leb h 23 && (leb m 59 && leb s 60)

-- the digits behind the point as whole nanoseconds (RFC 3339, section 5.6, time-secfrac; document 01: nine count): the number of the first
-- nine, times ten to the places that they leave of nine
unfoldable pub nanos_of : List ℕ → ℕ
nanos_of f = value 0 (take 9 f) * 10 ^ (9 - length (take 9 f))

-- nanoseconds since midnight; second 60 is the second after second 59
abbrev pub since_midnight : Clock → ℕ
since_midnight c = ((c.hour * 60 + c.minute) * 60 + c.second) * 1000000000 + nanos_of c.fraction

-- ---- the time as it is held (document 02, No. 7)

-- hour, minute, second and nanoseconds, and a mark, set exactly where the second is 60, and then with second 59
abbrev pub held : ℕ → ℕ → ℕ → ℕ → NaiveTime
held h m s n = record { hour = h; minute = m; second = cond (eqb s 60) 59 s; leap = eqb s 60; nanos = n }

-- the time that a text writes
abbrev pub held_clock : Clock → NaiveTime
held_clock c = held c.hour c.minute c.second (nanos_of c.fraction)

-- of each such time: nanoseconds below 1,000,000,000, and with the mark second 59
abbrev pub Proper : NaiveTime → Type 0
Proper t = (t.nanos < 1000000000) × (t.leap ≡ true → t.second ≡ 59)

-- its nanoseconds since midnight: the mark is a second more
abbrev pub nanos_of_day : NaiveTime → ℕ
nanos_of_day t = ((t.hour * 60 + t.minute) * 60 + t.second + cond t.leap 1 0) * 1000000000 + t.nanos
