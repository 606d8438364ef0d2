-- What a whole column answers in the column that a C caller numbers. The numbers are the library's own (parse_column:
-- `Numbers.column_numbered`). Assumes nothing.
use Rattle.std.specs.Prelude.{List, ℕ, Option, None, Some}
use Rattle.column.specs.Columns.{column}
use Rattle.column.specs.declared.Column.{Column}
use Rattle.whole_column.specs.Answer.{Whole, not_read, whole}

-- 255, before all else, where a number is no column's
abbrev pub in_column : Option Column → List ℕ → List ℕ → ℕ → Whole
in_column (Some c) bytes ends cells = whole (column c) bytes ends cells
in_column None bytes ends cells = not_read 255
