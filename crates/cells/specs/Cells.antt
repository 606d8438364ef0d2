-- What a C caller finds after a call: a status, and the cells that it lent. The refusals' numbers are document 01's. Assumes nothing.
use Rattle.std.specs.Prelude.{◌≡◌, cond, List, ℕ, ℤ, Option, None, Some, Result, length}
use Rattle.buffer.specs.Written.{in_room, length_of, left_in}
use Rattle.parse_column.specs.Read.{whole_of}
use Rattle.parse_column.specs.declared.ColumnRefusal.{ColumnRefusal}
use Rattle.records.specs.Slices.{Answer, converted, stays, not_read}
use Rattle.records.specs.Answer.{left}
use Rattle.refusal.specs.Outcome.{Outcome, accepted, refused, and_then}
use Rattle.site.specs.declared.Marked.{Marked}
use Rattle.whole_column.specs.Answer.{Whole, all_accepted, first_refused, not_read, cells_after}

-- accepted: status 0, and the cells hold the value; refused: the refusal's number, and the cells are as they were
abbrev pub Told : {A : Type 0} → Outcome A → ℕ → A → A → Type 0
Told (accepted v) status before after = (status ≡ 0) × (after ≡ v)
Told (refused n) status before after = (status ≡ n) × (after ≡ before)

-- what the cells `nanos` and `leap` hold of a site stamp: 1 with the mark of second 60, else 0
abbrev pub cells_of : Marked → ℤ × ℕ
cells_of x = (x.nanos, cond x.leap 1 0)

abbrev pub in_cells : Outcome Marked → Outcome (ℤ × ℕ)
in_cells o = and_then o (λ x. accepted (cells_of x))

-- the cell `place` of an interval, or `index` of records: what a refusal tells is written, and where it tells nothing the cell is as it was
abbrev pub ToldPlace : Option ℕ → ℕ → ℕ → Type 0
ToldPlace None before after = after ≡ before
ToldPlace (Some p) before after = after ≡ p

-- of a whole column: accepted, status 0; a text refused, its number, and the cell `index` holds its index; no text read, the number alone
abbrev pub ToldAt : Whole → ℕ → ℕ → ℕ → Type 0
ToldAt (all_accepted zs) status before after = (status ≡ 0) × (after ≡ before)
ToldAt (first_refused n i) status before after = (status ≡ n) × (after ≡ i)
ToldAt (not_read n) status before after = (status ≡ n) × (after ≡ before)

-- and the cells are as the column leaves them
abbrev pub ToldColumn : Whole → ℕ → ℕ → ℕ → List ℤ → List ℤ → Type 0
ToldColumn w status i j before after = ToldAt w status i j × (after ≡ cells_after w before)

-- what a column's answer makes of status and index, whatever the values
abbrev pub Tells : Result (Unit {0}) ColumnRefusal → ℕ → ℕ → ℕ → Type 0
Tells r status before after = (zs : List ℤ) → ToldAt (whole_of r zs) status before after

-- of a printing: accepted, status 0, the cell `length` holds how many bytes were written, and the buffer begins with the text; refused, 14 among
-- the numbers, the cell and the buffer are as they were
abbrev pub ToldText : Outcome (List ℕ) → ℕ → ℕ → ℕ → List ℕ → List ℕ → Type 0
ToldText text status m n before after = Told (length_of (in_room (length before) text)) status m n × (after ≡ left_in (in_room (length before) text) before)

-- of records: 0, or 11 where one stays, or the number with which none is read
abbrev pub status_of : {A : Type 0} → Answer A → ℕ
status_of (converted v) = 0
status_of (stays i) = 11
status_of (not_read n) = n

-- what the cell `index` is told: the index of the first record that stays
abbrev pub index_of : {A : Type 0} → Answer A → Option ℕ
index_of (converted v) = None
index_of (stays i) = Some i
index_of (not_read n) = None

-- and the buffer is as the conversion leaves it
abbrev pub ToldRecords : Answer (List ℕ) → ℕ → List ℕ → List ℕ → Type 0
ToldRecords a status before after = (status ≡ status_of a) × (after ≡ left a before)
