-- What a stamp reads as, computed, with the refusals 1 to 5, 15 and 6 in order. `Rattle.stamp_text.proofs.Agreement` joins the
-- computation to the grammar. Assumes nothing.
use Rattle.std.specs.Prelude.{Bool, true, false, cond, not, ◌&&◌, ◌||◌, List, [], ◌∷◌, ℕ, ◌+◌, ◌*◌, eqb, length, get_or, take, drop, ℤ, pos, Option, None, Some}
use Rattle.calendar.specs.Calendar.{civil}
use Rattle.number.specs.Widths.{in_signed}
use Rattle.refusal.specs.Outcome.{Outcome, accepted, refused, in_utf8, and_then}
use Rattle.text.specs.Digits.{is_digit, two_digits, two_at, run}
use Rattle.clock.specs.Clock.{in_range, nanos_of, held}
use Rattle.clock.specs.declared.NaiveTime.{NaiveTime}
use Rattle.datetime.specs.Moment.{Moment, moment, instant}
use Rattle.offset.specs.declared.Offset.{Offset}
use Rattle.offset.specs.Utc.{in_range as offset_in_range}
use Rattle.offset.specs.Answer.{offset_of, less}

-- the text begins with yyyy-mm-dd
abbrev pub is_date : List ℕ → Bool
is_date t =
    two_digits t 0 &&
    (two_digits t 2 && (eqb (get_or t 4 0) 0x2D && (two_digits t 5 && (eqb (get_or t 7 0) 0x2D && two_digits t 8))))

-- the day that it names, if there is one
unfoldable pub day_of : List ℕ → Option ℤ
day_of t = cond (is_date t) (civil (pos (two_at t 0 * 100 + two_at t 2)) (two_at t 5) (two_at t 8)) None

-- the text begins with hh:mm:ss
abbrev pub has_colons : List ℕ → Bool
has_colons t =
    two_digits t 0 && (eqb (get_or t 2 0) 0x3A && (two_digits t 3 && (eqb (get_or t 5 0) 0x3A && two_digits t 6)))

-- it begins with hhmmss, and the two bytes after that are no digits
abbrev pub is_basic : List ℕ → Bool
is_basic t =
    two_digits t 0 && (two_digits t 2 && (two_digits t 4 && (not (is_digit (get_or t 6 0)) && not (is_digit (get_or t 7 0)))))

-- a time and the bytes after it
pub record Timed : Type 0 where
  pub time : NaiveTime
  pub tail : List ℕ

-- the time with these fields and nanoseconds, if the fields are in range
abbrev pub timed_at : ℕ → ℕ → ℕ → ℕ → List ℕ → Option Timed
timed_at h m s n tail = cond (in_range h m s) (Some (record { time = held h m s n; tail = tail })) None

-- the time with these fields and the digits of a fraction
abbrev pub timed : ℕ → ℕ → ℕ → List ℕ → List ℕ → Option Timed
timed h m s f tail = timed_at h m s (nanos_of f) tail

-- after the seconds: a point must have a digit behind it; all digits belong to the fraction
abbrev pub with_fraction : ℕ → ℕ → ℕ → ℕ → List ℕ → Option Timed
with_fraction h m s n r = cond (eqb n 0) None (timed h m s (take n r) (drop n r))

abbrev pub after_seconds : ℕ → ℕ → ℕ → List ℕ → Option Timed
after_seconds h m s r = cond (eqb (get_or r 0 0) 0x2E) (with_fraction h m s (run (drop 1 r)) (drop 1 r)) (timed h m s [] r)

-- a time without colons
abbrev pub basic_time : List ℕ → Option Timed
basic_time t = cond (is_basic t) (timed (two_at t 0) (two_at t 2) (two_at t 4) [] (drop 6 t)) None

-- the time that a text begins with, if it begins with one
unfoldable pub time_of : List ℕ → Option Timed
time_of t = cond (has_colons t) (after_seconds (two_at t 0) (two_at t 3) (two_at t 6) (drop 8 t)) (basic_time t)

-- nothing, or a single z or Z
abbrev pub is_ending : List ℕ → Bool
is_ending [] = true
is_ending (b ∷ []) = eqb b 0x5A || eqb b 0x7A
is_ending (b ∷ c ∷ t) = false

-- T, t or a space
abbrev pub is_separator : ℕ → Bool
is_separator b = eqb b 0x54 || (eqb b 0x74 || eqb b 0x20)

-- 5: bytes remain after the time that are neither a single final z or Z nor an offset; 15: an offset's hours or minutes are out of range
abbrev pub on_offset : Moment → Option Offset → Outcome Moment
on_offset x None = refused 5
on_offset x (Some o) = cond (offset_in_range o) (accepted (less x o)) (refused 15)

abbrev pub at_end : ℤ → Timed → Outcome Moment
at_end z x = cond (is_ending x.tail) (accepted (moment z x.time)) (on_offset (moment z x.time) (offset_of x.tail))

-- 4: the bytes from 11 on are no time. Here and below `end` tells what comes of the time and the bytes after it
abbrev pub on_time : (ℤ → Timed → Outcome Moment) → ℤ → Option Timed → Outcome Moment
on_time end z None = refused 4
on_time end z (Some x) = end z x

-- 3: byte 10 is no separator; a text of 10 bytes means midnight
abbrev pub after_date : (ℤ → Timed → Outcome Moment) → List ℕ → ℤ → Outcome Moment
after_date end t z =
    cond (eqb (length t) 10) (accepted (moment z (held 0 0 0 0)))
    (cond (is_separator (get_or t 10 0)) (on_time end z (time_of (drop 11 t))) (refused 3))

-- 2: the text begins with no date of the calendar
abbrev pub on_date : (ℤ → Timed → Outcome Moment) → List ℕ → Option ℤ → Outcome Moment
on_date end t None = refused 2
on_date end t (Some z) = after_date end t z

unfoldable pub plain_moment : List ℕ → Outcome Moment
plain_moment t = on_date at_end t (day_of t)

-- the moment that a stamp names; 1: the bytes are no UTF-8
abbrev pub datetime : List ℕ → Outcome Moment
datetime t = in_utf8 t (plain_moment t)

-- 6: the nanoseconds do not fit 64 signed bits
abbrev pub in_nanos : ℤ → Outcome ℤ
in_nanos z = cond (in_signed 63 z) (accepted z) (refused 6)

-- the instant that a stamp names, in nanoseconds
abbrev pub stamp_nanos : List ℕ → Outcome ℤ
stamp_nanos t = and_then (datetime t) (λ m. in_nanos (instant m))
