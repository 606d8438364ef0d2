-- What a time column reads (document 01, "Time of day"): a time, of the text as given and then trimmed, in the column's unit, and between
-- the two attempts an integer. Assumes nothing.
use Rattle.std.specs.Prelude.{true, List, ℕ, ℤ, Option, None, Some}
use Rattle.number.specs.Decimal.{integer}
use Rattle.refusal.specs.Attempts.{or_else, divided}
use Rattle.refusal.specs.Outcome.{Outcome, accepted, refused}
use Rattle.text.specs.Trim.{trimmed}
use Rattle.time.specs.Answer.{time_nanos}

-- 7: the text is no integer of the column's width either
abbrev pub on_integer : Option ℤ → Outcome ℤ
on_integer None = refused 7
on_integer (Some z) = accepted z

-- an integer of the column's width, undivided
abbrev pub as_integer : ℕ → List ℕ → Outcome ℤ
as_integer bits t = on_integer (integer true bits t)

-- a time column of that many bits whose unit is k nanoseconds: a time; failing that, the text as given as an integer; failing that, a
-- time once trimmed
abbrev pub time_column : ℕ → ℕ → List ℕ → Outcome ℤ
time_column k bits t = or_else (divided k (time_nanos t)) (or_else (as_integer bits t) (divided k (time_nanos (trimmed t))))
