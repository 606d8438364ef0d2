-- What the two date columns read (document 01, "Dates and stamps"): days, of the text as given and then trimmed, or milliseconds.
-- Assumes nothing.
use Rattle.std.specs.Prelude.{cond, List, ℕ, leb, length, ℤ, pos, ◌*ℤ◌}
use Rattle.date.specs.Answer.{day_named, date_days}
use Rattle.number.specs.Widths.{floor}
use Rattle.refusal.specs.Attempts.{retried}
use Rattle.refusal.specs.Outcome.{Outcome, accepted, and_then}
use Rattle.stamp_text.specs.Answer.{datetime}
use Rattle.datetime.specs.Moment.{instant}

-- Date32: the day number
abbrev pub date32 : List ℕ → Outcome ℤ
date32 t = retried date_days t

-- milliseconds of an instant, rounded down
abbrev pub millis : ℤ → Outcome ℤ
millis z = accepted (floor z 1000000)

-- Date64: up to 10 bytes a date, beyond that a stamp; never trimmed
abbrev pub date64 : List ℕ → Outcome ℤ
date64 t =
    cond (leb (length t) 10) (and_then (day_named t) (λ z. accepted (z *ℤ pos 86400000))) (and_then (datetime t) (λ m. millis (instant m)))
