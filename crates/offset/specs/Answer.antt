-- The offset that a text writes and the moment in UTC, computed. `Rattle.offset.proofs.Agreement` and `Shift` join the computation to the
-- relations. Assumes nothing.
use Rattle.std.specs.Prelude.{Bool, cond, ◌&&◌, ◌||◌, List, [], ◌∷◌, ℕ, zero, suc, ◌+◌, ◌-◌, ◌*◌, ◌/◌, ◌%◌, eqb, drop, ℤ, pos, ◌+ℤ◌, ◌-ℤ◌, Option, None, Some}
use Rattle.text.specs.Digits.{is_digit, worth, two_digits, two_at}
use Rattle.white.specs.WhiteSpace.{white_len}
use Rattle.clock.specs.declared.NaiveTime.{NaiveTime}
use Rattle.datetime.specs.Moment.{Moment, moment}
use Rattle.offset.specs.declared.Offset.{Offset}
use Rattle.offset.specs.Grammar.{offset}
use Rattle.offset.specs.Utc.{in_range, with_minute}

-- ---- the text

-- the bytes behind the White_Space characters that a text begins with; its first n bytes go on with such a character
unfoldable pub drop_white : ℕ → List ℕ → List ℕ
drop_white n [] = []
drop_white zero (b ∷ t) = cond (eqb (white_len (b ∷ t)) 0) (b ∷ t) (drop_white (white_len (b ∷ t) - 1) t)
drop_white (suc n) (b ∷ t) = drop_white n t

-- the minutes that stand behind the hours, up to the end: none, mm or :mm
unfoldable pub minute_of : List ℕ → Option ℕ
minute_of [] = Some 0
minute_of (a ∷ []) = None
minute_of (a ∷ b ∷ []) = cond (is_digit a && is_digit b) (Some (worth a * 10 + worth b)) None
minute_of (c ∷ a ∷ b ∷ []) = cond (eqb c 0x3A && (is_digit a && is_digit b)) (Some (worth a * 10 + worth b)) None
minute_of (a ∷ b ∷ c ∷ d ∷ t) = None

-- the offset with these hours, if there are minutes
abbrev pub with_hour : Bool → ℕ → Option ℕ → Option Offset
with_hour s h None = None
with_hour s h (Some m) = Some (offset s h m)

-- an offset in figures: a sign, hours, and minutes
unfoldable pub numoffset : List ℕ → Option Offset
numoffset [] = None
numoffset (b ∷ t) = cond ((eqb b 0x2B || eqb b 0x2D) && two_digits t 0) (with_hour (eqb b 0x2D) (two_at t 0) (minute_of (drop 2 t))) None

abbrev pub offset_of : List ℕ → Option Offset
offset_of t = numoffset (drop_white 0 t)

-- ---- the moment

-- minutes of the time less the offset, from the midnight before the day's own
abbrev pub minutes_from : NaiveTime → Offset → ℕ
minutes_from t o =
    cond o.minus (1440 + (t.hour * 60 + t.minute) + (o.hour * 60 + o.minute)) (1440 + (t.hour * 60 + t.minute) - (o.hour * 60 + o.minute))

-- the time with that minute of a day, and the days from the local one to that day
abbrev pub at_minute : ℕ → NaiveTime → NaiveTime × ℤ
at_minute n t = (with_minute (n % 1440 / 60) (n % 1440 % 60) t, pos (n / 1440) -ℤ pos 1)

-- a time of day less an offset, if that is in range
abbrev pub sub_offset : NaiveTime → Offset → Option (NaiveTime × ℤ)
sub_offset t o = cond (in_range o) (Some (at_minute (minutes_from t o) t)) None

-- a moment less an offset
abbrev pub less : Moment → Offset → Moment
less x o = let y = at_minute (minutes_from x.time o) x.time in moment (x.day +ℤ y.1) y.0
