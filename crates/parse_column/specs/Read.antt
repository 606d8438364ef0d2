-- What a column's answer says of the whole column, and what the cells hold then. Assumes nothing.
use Rattle.std.specs.Prelude.{◌≡◌, List, ℕ, ℤ, take, Result, Ok, Err}
use Rattle.refusal.specs.Outcome.{number_of}
use Rattle.whole_column.specs.Answer.{Whole, all_accepted, first_refused, not_read, cells_after}
use Rattle.parse_column.specs.declared.ColumnRefusal.{ColumnRefusal}
use Rattle.parse_column.specs.declared.ColumnRefusal.TheVariants.{Text, Call}

-- an answer and the values that the first cells hold then
abbrev pub whole_of : Result (Unit {0}) ColumnRefusal → List ℤ → Whole
whole_of (Ok u) zs = all_accepted zs
whole_of (Err (Text why i)) zs = first_refused (number_of why) i
whole_of (Err (Call why)) zs = not_read (number_of why)

-- the answer, with the values in the first n cells, is the column's; and the cells are as the column leaves them
abbrev pub Answers : Whole → Result (Unit {0}) ColumnRefusal → ℕ → List ℤ → List ℤ → Type 0
Answers w r n before after = (whole_of r (take n after) ≡ w) × (after ≡ cells_after w before)
