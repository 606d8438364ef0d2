-- The name of a unit: document 02, No. 4, "the name in singular". Assumes nothing.
use Rattle.std.specs.Prelude.{List, ℕ}
use Rattle.utf8.specs.Quoted.{bytes}
use Rattle.unit.specs.declared.IntervalUnit.{IntervalUnit}
use Rattle.unit.specs.declared.IntervalUnit.TheVariants.{Century, Decade, Year, Month, Week, Day, Hour, Minute, Second, Millisecond, Microsecond, Nanosecond}

unfoldable pub name : IntervalUnit → List ℕ
name Century = bytes "century"
name Decade = bytes "decade"
name Year = bytes "year"
name Month = bytes "month"
name Week = bytes "week"
name Day = bytes "day"
name Hour = bytes "hour"
name Minute = bytes "minute"
name Second = bytes "second"
name Millisecond = bytes "millisecond"
name Microsecond = bytes "microsecond"
name Nanosecond = bytes "nanosecond"
