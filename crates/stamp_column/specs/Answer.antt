-- What a timestamp column reads (document 01, "Dates and stamps"): a stamp, of the text as given and then trimmed, in the column's unit.
-- Assumes nothing.
use Rattle.std.specs.Prelude.{List, ℕ, ℤ}
use Rattle.refusal.specs.Attempts.{retried, divided}
use Rattle.refusal.specs.Outcome.{Outcome}
use Rattle.stamp_text.specs.Answer.{stamp_nanos}

-- a timestamp column whose unit is k nanoseconds
abbrev pub timestamp_column : ℕ → List ℕ → Outcome ℤ
timestamp_column k t = divided k (retried stamp_nanos t)
