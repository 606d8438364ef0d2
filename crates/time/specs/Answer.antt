-- What a time of day reads as, computed, with the refusals 1 and 7 of document 01. `Rattle.time.proofs.Agreement` joins the computation
-- to the grammar. Assumes nothing.
use Rattle.std.specs.Prelude.{Bool, cond, ◌&&◌, ◌||◌, List, [], ◌∷◌, ℕ, ◌+◌, ◌-◌, ◌%◌, eqb, leb, ltb, length, get_or, take, drop, ℤ, pos, Option, None, Some}
use Rattle.refusal.specs.Outcome.{Outcome, accepted, refused, in_utf8}
use Rattle.text.specs.Digits.{is_digit, worth, digits, two_digits, two_at}
use Rattle.clock.specs.Clock.{in_range, nanos_of, held, nanos_of_day}
use Rattle.clock.specs.declared.NaiveTime.{NaiveTime}
use Rattle.time.specs.declared.Half.{Half}
use Rattle.time.specs.declared.Half.TheVariants.{Am, Pm}

-- a letter in either case
abbrev pub is_letter : ℕ → ℕ → Bool
is_letter capital b = eqb b capital || eqb b (capital + 0x20)

-- the half of the day that three bytes name: one space and AM or PM
abbrev pub half_of : ℕ → ℕ → ℕ → Option Half
half_of s a m =
    cond (eqb s 0x20 && is_letter 0x4D m) (cond (is_letter 0x41 a) (Some Am) (cond (is_letter 0x50 a) (Some Pm) None)) None

-- of the last three bytes; a text of fewer than 4 bytes is none
abbrev pub half : List ℕ → Option Half
half t = cond (ltb (length t) 4) None (half_of (get_or t (length t - 3) 0) (get_or t (length t - 2) 0) (get_or t (length t - 1) 0))

-- the text without that ending
abbrev pub body : Option Half → List ℕ → List ℕ
body None t = t
body (Some p) t = take (length t - 3) t

-- the hour of the day
abbrev pub hour_of : Option Half → ℕ → Option ℕ
hour_of None h = Some h
hour_of (Some Am) h = cond (leb 1 h && leb h 12) (Some (h % 12)) None
hour_of (Some Pm) h = cond (leb 1 h && leb h 12) (Some (h % 12 + 12)) None

-- the time with these fields, if they are in range
abbrev pub in_day : ℕ → ℕ → ℕ → Option ℕ → Option NaiveTime
in_day m s n None = None
in_day m s n (Some h) = cond (in_range h m s) (Some (held h m s n)) None

-- the fraction behind the seconds: nothing, or a point and one or more digits to the end
abbrev pub fraction_of : List ℕ → Option ℕ
fraction_of [] = Some 0
fraction_of (b ∷ []) = None
fraction_of (b ∷ c ∷ f) = cond (eqb b 0x2E && digits (c ∷ f)) (Some (nanos_of (c ∷ f))) None

abbrev pub with_fraction : Option Half → ℕ → ℕ → ℕ → Option ℕ → Option NaiveTime
with_fraction p h m s None = None
with_fraction p h m s (Some n) = in_day m s n (hour_of p h)

-- after the minutes: nothing, or a colon and two second digits, and perhaps a fraction
abbrev pub after_minutes : Option Half → ℕ → ℕ → List ℕ → Option NaiveTime
after_minutes p h m [] = in_day m 0 0 (hour_of p h)
after_minutes p h m (b ∷ r) =
    cond (eqb b 0x3A && two_digits r 0) (with_fraction p h m (two_at r 0) (fraction_of (drop 2 r))) None

-- after the hour and its colon: two minute digits
abbrev pub after_hour : Option Half → ℕ → List ℕ → Option NaiveTime
after_hour p h r = cond (two_digits r 0) (after_minutes p h (two_at r 0) (drop 2 r)) None

-- one hour digit and a colon, or two and a colon
abbrev pub from_hour : Option Half → List ℕ → Option NaiveTime
from_hour p t =
    cond (is_digit (get_or t 0 0) && eqb (get_or t 1 0) 0x3A) (after_hour p (worth (get_or t 0 0)) (drop 2 t))
    (cond (two_digits t 0 && eqb (get_or t 2 0) 0x3A) (after_hour p (two_at t 0) (drop 3 t)) None)

-- the time that the text is, if it is one
unfoldable pub time_of_day : List ℕ → Option NaiveTime
time_of_day t = from_hour (half t) (body (half t) t)

-- 7: the text is no time
abbrev pub on_time : Option NaiveTime → Outcome ℤ
on_time None = refused 7
on_time (Some t) = accepted (pos (nanos_of_day t))

-- nanoseconds since midnight
abbrev pub time_nanos : List ℕ → Outcome ℤ
time_nanos t = in_utf8 t (on_time (time_of_day t))
