-- `total::components::parse_interval_components` meets its contract. The loop's invariant: marks, where a unit first came again, the totals so
-- far, where they first did not fit, and what is left of the text, give its answer and its place. The measure is what is left of the text.
-- Assumes nothing.
use mathlib.Core.Path.{◌≡◌}
use Prim.Native.Nat.{◌-◌, ◌≤◌}
use lib.ListN.{length}
use Rattle.total.specs.Helpers.{totals_of, unfit_of, came}
use Rattle.total.proofs.Folding.{Goes, Places}
use Rattle.total.proofs.components.parse_interval_components.Given as goal

abbrev pub invariant-loop-piece : goal.invariant-loop-piece
invariant-loop-piece l = (l.at ≤ length l.value) ×
    (length l.seen ≡ 12) ×
    Goes l.value l.default_unit l.at l.seen (came l.repeated) (totals_of l.total) ×
    Places l.value l.default_unit l.at l.seen l.repeated (totals_of l.total) (unfit_of l.total)

abbrev pub decreases-loop-piece : goal.decreases-loop-piece
decreases-loop-piece l = length l.value - l.at
