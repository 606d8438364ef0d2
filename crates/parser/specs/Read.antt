-- What the answers of `parser` say: hour, minute and second of a text; the time of a text, and the bytes after it.
-- Assumes nothing.
use Rattle.std.specs.Prelude.{cond, List, ℕ, drop, Option, None, Some}
use Rattle.text.specs.Digits.{two_at}
use Rattle.clock.specs.declared.NaiveTime.{NaiveTime}
use Rattle.stamp_text.specs.Answer.{Timed, has_colons, is_basic}
use Rattle.parser.specs.declared.Fields.{Fields}

-- hour, minute and second of a text that begins with hh:mm:ss
abbrev pub fields_of : List ℕ → Option Fields
fields_of t = cond (has_colons t) (Some (record { hour = two_at t 0; minute = two_at t 3; second = two_at t 6 })) None

-- and of one that begins with hhmmss, with no digit in the two bytes after
abbrev pub basic_fields_of : List ℕ → Option Fields
basic_fields_of t = cond (is_basic t) (Some (record { hour = two_at t 0; minute = two_at t 2; second = two_at t 4 })) None

-- a time of a text s, and the place where it ends
abbrev pub ends_at : List ℕ → Option (NaiveTime × ℕ) → Option Timed
ends_at s (Some x) = Some (record { time = x.0; tail = drop x.1 s })
ends_at s None = None
