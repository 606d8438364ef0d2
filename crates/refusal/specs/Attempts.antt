-- Outcomes put together, as document 01's columns do: one attempt after another, the text as given and then trimmed, a number of
-- nanoseconds in the column's unit. Assumes nothing.
use Rattle.std.specs.Prelude.{List, ℕ, ℤ, pos}
use Rattle.std.specs.Int.Signed.{quot_z}
use Rattle.text.specs.Trim.{trimmed}
use Rattle.refusal.specs.Outcome.{Outcome, accepted, refused}

-- the first outcome, or the second where the first is refused
abbrev pub or_else : Outcome ℤ → Outcome ℤ → Outcome ℤ
or_else (accepted z) o = accepted z
or_else (refused n) o = o

-- the text as given, then trimmed; the number of a refusal is the trimmed attempt's
abbrev pub retried : (List ℕ → Outcome ℤ) → List ℕ → Outcome ℤ
retried reader t = or_else (reader t) (reader (trimmed t))

-- divided by k toward zero
abbrev pub divided : ℕ → Outcome ℤ → Outcome ℤ
divided k (accepted z) = accepted (quot_z z (pos k))
divided k (refused n) = refused n
