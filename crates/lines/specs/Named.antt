-- The default unit that the name of a reader tells, as `in_days`. Assumes nothing.
use Rattle.std.specs.Prelude.{cond, ◌&&◌, List, ℕ, eqb, get_or, drop, Option, None}
use Rattle.unit.specs.declared.IntervalUnit.{IntervalUnit}
use Rattle.unit.specs.Units.{unit_of}

-- the unit that stands behind `in_`; past the end of a name is a 0, which is none of these bytes
unfoldable pub unit_named : List ℕ → Option IntervalUnit
unit_named n =
    cond (eqb (get_or n 0 0) 0x69 && eqb (get_or n 1 0) 0x6E && eqb (get_or n 2 0) 0x5F) (unit_of (drop 3 n)) None
