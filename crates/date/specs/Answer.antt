-- What a date reads as, computed, with the refusals 1 to 5, 15 and 6 in order. `Rattle.date.proofs.Agreement` joins the computation
-- to the grammar. Assumes nothing.
use Rattle.std.specs.Prelude.{Bool, cond, ◌||◌, List, ℕ, eqb, leb, length, get_or, ℤ, Option, None, Some}
use Rattle.calendar.specs.Calendar.{civil}
use Rattle.number.specs.Widths.{in_signed}
use Rattle.refusal.specs.Outcome.{Outcome, accepted, refused, in_utf8, and_then}
use Rattle.stamp_text.specs.Answer.{plain_moment}
use Rattle.ymd.specs.declared.Ymd.{Ymd}
use Rattle.ymd.specs.Forms.{extended_ymd, short_day}

abbrev pub is_sign : ℕ → Bool
is_sign b = eqb b 0x2B || eqb b 0x2D

-- ---- the signed form

-- the day with these numbers, if the calendar has it
abbrev pub day_with : Option Ymd → Option ℤ
day_with None = None
day_with (Some x) = civil x.year x.month x.day

abbrev pub signed_day : List ℕ → Option ℤ
signed_day t = day_with (extended_ymd t)

-- ---- the outcome

-- 2: no shape of a date, or no day of the calendar
abbrev pub on_day : Option ℤ → Outcome ℤ
on_day None = refused 2
on_day (Some z) = accepted z

-- the day that a text names; one of more than 10 bytes without a sign is read as a stamp, whose refusals are 2 to 5 and 15
unfoldable pub plain_day : List ℕ → Outcome ℤ
plain_day t =
    cond (is_sign (get_or t 0 0)) (on_day (signed_day t))
    (cond (leb (length t) 10) (on_day (short_day t)) (and_then (plain_moment t) (λ x. accepted x.day)))

-- the day that a text names; 1: the bytes are no UTF-8
abbrev pub day_named : List ℕ → Outcome ℤ
day_named t = in_utf8 t (plain_day t)

-- 6: the day number does not fit 32 signed bits
abbrev pub in_days : ℤ → Outcome ℤ
in_days z = cond (in_signed 31 z) (accepted z) (refused 6)

-- days since 1970-01-01
abbrev pub date_days : List ℕ → Outcome ℤ
date_days t = and_then (day_named t) in_days
