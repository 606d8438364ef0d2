-- The numbers of a whole column's call: a refused text's is on document 01's list, the others are 13 and 255 (`numbered`). So a status of
-- 0 means that every text is accepted (`column_status_0`). Assumes nothing.
use mathlib.Core.Path.{◌≡◌, refl}
use mathlib.Core.Logic.{◌↔◌}
use mathlib.Core.List.{List}
use Rattle.std.specs.Prelude.{Option, None, Some}
use Prim.Native.Nat.{ℕ}
use native.Mathlib.Omega.{arith}
use lib.IntN.{ℤ}
use Rattle.column.specs.Columns.{column}
use Rattle.column.specs.declared.Column.{Column}
use Rattle.whole_column.specs.Answer.{Whole, all_accepted, first_refused, not_read, whole}
use Rattle.whole_column.specs.Meaning.{FirstRefused, this, a_later, Means, accepts, refuses, bad_ends, too_few_cells}
use Rattle.whole_column.proofs.Agreement.{agrees}
use Rattle.cells.specs.Cells.{ToldAt}
use Rattle.cullpethi.specs.Calls.{OnList}
use Rattle.cullpethi.specs.ColumnNumber.{in_column}
use Rattle.cullpethi.proofs.Listed.{numbered_column, range}

-- every text is accepted
pub data EveryText : Whole → Type 0 where
  every_text : (zs : List ℤ) → EveryText (all_accepted zs)

-- what an answer's number may be
pub data Numbered : Whole → Type 0 where
  no_number : (zs : List ℤ) → Numbered (all_accepted zs)
  of_a_text : {n : ℕ} (i : ℕ) → OnList n → Numbered (first_refused n i)
  ends_or_cells : Numbered (not_read 13)
  no_column : Numbered (not_read 255)

refused_text : (c : Column) {texts : List (List ℕ)} {n i : ℕ} → FirstRefused (column c) texts n i → OnList n
refused_text c (this {t} {texts} {n} e) = numbered_column t c n e
refused_text c (a_later e f) = refused_text c f

meant : (c : Column) (bytes ends : List ℕ) (cells : ℕ) {w : Whole} → Means (column c) bytes ends cells w → Numbered w
meant c bytes ends cells (accepts {zs = zs} l h a) = no_number zs
meant c bytes ends cells (refuses {n = n} {i = i} l h f) = of_a_text i (refused_text c f)
meant c bytes ends cells (bad_ends b) = ends_or_cells
meant c bytes ends cells (too_few_cells h) = ends_or_cells

-- each answer has a number of document 01's list, or 13, or 255
pub numbered : (m : Option Column) (bytes ends : List ℕ) (cells : ℕ) → Numbered (in_column m bytes ends cells)
numbered None bytes ends cells = no_column
numbered (Some c) bytes ends cells = meant c bytes ends cells ((agrees (column c) bytes ends cells (whole (column c) bytes ends cells)).1 refl)

abbrev Every : Whole → Type 0
Every (all_accepted zs) = Unit
Every (first_refused n i) = ⊥
Every (not_read n) = ⊥

every : {w : Whole} → EveryText w → Every w
every (every_text zs) = tt

by_number : {w : Whole} (status i j : ℕ) → Numbered w → ToldAt w status i j → (status ≡ 0) ↔ EveryText w
by_number s i j (no_number zs) t = (λ e. every_text zs, λ e. t.0)
by_number s i j (of_a_text k l) t = (λ e. absurd (omega (arith, e, t.0, (range l).0)), λ e. absurd (every e))
by_number s i j ends_or_cells t = (λ e. absurd (omega (arith, e, t.0)), λ e. absurd (every e))
by_number s i j no_column t = (λ e. absurd (omega (arith, e, t.0)), λ e. absurd (every e))

-- a status of 0 means that every text is accepted, and any other that one is not or that none was read
pub column_status_0 : (m : Option Column) (bytes ends : List ℕ) (cells status i j : ℕ) → ToldAt (in_column m bytes ends cells) status i j
    → (status ≡ 0) ↔ EveryText (in_column m bytes ends cells)
column_status_0 m bytes ends cells s i j t = by_number s i j (numbered m bytes ends cells) t
