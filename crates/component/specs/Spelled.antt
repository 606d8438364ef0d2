-- The unit of a component, "the one spelled, else the default" (document 01, "Interval grammar"). Assumes nothing.
use Rattle.std.specs.Prelude.{List, ℕ, Option, None, Some}
use Rattle.unit.specs.Units.{unit_of, or_else}
use Rattle.component.specs.Grammar.{Component}
use Rattle.unit.specs.declared.IntervalUnit.{IntervalUnit}

-- the unit that a unit word spells; the default u where there is no word
unfoldable pub spelled : IntervalUnit → Option (List ℕ) → IntervalUnit
spelled u None = u
spelled u (Some w) = or_else u (unit_of w)

-- the unit of a component: "the one spelled, else the default"
unfoldable pub unit_for : IntervalUnit → Component → IntervalUnit
unit_for u c = spelled u c.unit
