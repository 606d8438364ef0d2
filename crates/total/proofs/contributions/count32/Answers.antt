-- `total::contributions::count32` meets its contract: product and sum are exact. Assumes nothing.
use mathlib.Core.Path.{ap, ◌∙◌}
use native.Mathlib.Omega.{arith}
use Rattle.number.specs.Widths.{fit}
use Rattle.total.proofs.Adding.{count_is}
use Rattle.total.proofs.contributions.count32.Goals as goal

pub returns : goal.returns
returns c = c.narrow.ensures ∙ ap (fit 31) (count_is c.ranges.whole c.ranges.part (omega arith) c.in_ok-checked_mul.ensures c.in_ok-checked_add.ensures)
