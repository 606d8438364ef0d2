use Rattle.std.proofs.Common.{◌-◌, ◌*◌}
use Rattle.keypad.proofs.turns.+turns.Given as goal

-- the half-components that remain, a digit and a unit for each component
abbrev pub decreases-amount_turn : goal.decreases-amount_turn
decreases-amount_turn l = 2 * l.left

abbrev pub decreases-unit_turn : goal.decreases-unit_turn
decreases-unit_turn l = 2 * l.left - 1
