-- The delivered calls and the answer that the contract of each cites, so that one statement speaks of all. Assumes nothing.
use Rattle.std.specs.Prelude.{◌≡◌, Bool, true, ◌||◌, List, ℕ, eqb, leb, ℤ}
use Rattle.column.specs.Columns.{column}
use Rattle.column.specs.declared.Column.{Column}
use Rattle.amount.specs.Grammar.{precision}
use Rattle.rule.specs.Answer.{day_time, plain_month_day_nano, year_month}
use Rattle.rule.specs.Contribution.{Counts}
use Rattle.rule.specs.Meaning.{DayTime}
use Rattle.refusal.specs.Outcome.{Outcome, accepted, number_of}
use Rattle.refusal.specs.declared.Refusal.{Refusal}
use Rattle.time.specs.Answer.{time_nanos}
use Rattle.stamp_text.specs.Answer.{stamp_nanos}
use Rattle.site.specs.Site.{site_marked}
use Rattle.cells.specs.Cells.{in_cells}
use Rattle.unit.specs.Units.{unit_numbered}
use Rattle.cullpethi.specs.DefaultUnit.{in_unit}

-- the readers of document 01, "Delivered and not delivered"; the last has the number of a default unit
pub data Call : Type 0 where
  string_to_timestamp_nanos string_to_time_nanoseconds site_stamp : Call
  parse : Column → Call
  interval_year_month interval_day_time interval_month_day_nano : Call
  interval_month_day_nano_config : ℕ → Call

-- what the cells of a call hold
abbrev pub CellsOf : Call → Type 0
CellsOf string_to_timestamp_nanos = ℤ
CellsOf string_to_time_nanoseconds = ℤ
CellsOf site_stamp = ℤ × ℕ
CellsOf (parse c) = ℤ
CellsOf interval_year_month = ℤ
CellsOf interval_day_time = DayTime
CellsOf interval_month_day_nano = Counts
CellsOf (interval_month_day_nano_config unit) = Counts

-- what the contract of a call says of a text
abbrev pub answer : (c : Call) → List ℕ → Outcome (CellsOf c)
answer string_to_timestamp_nanos t = stamp_nanos t
answer string_to_time_nanoseconds t = time_nanos t
answer site_stamp t = in_cells (site_marked t)
answer (parse c) t = column c t
answer interval_year_month t = year_month precision t
answer interval_day_time t = day_time precision t
answer interval_month_day_nano t = plain_month_day_nano precision t
answer (interval_month_day_nano_config unit) t = in_unit (unit_numbered unit) t

-- the text is accepted
pub data Accepts {A : Type 0} : Outcome A → Type 0 where
  accepts : (v : A) → Accepts (accepted v)

-- a number of the list of a text's refusals: document 01's, "Refusals, in checking order", of which the last is 12, and document 02's 15 (No. 6)
abbrev pub of_text : ℕ → Bool
of_text n = leb n 12 || eqb n 15

pub data OnList : ℕ → Type 0 where
  on_list : (why : Refusal) → of_text (number_of why) ≡ true → OnList (number_of why)
