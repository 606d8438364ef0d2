-- `amount::parts::fraction` meets its contract. The loop's invariant, over the limit of 15 digits: after i digits the scale is ten to
-- the power 15 less i, and the number of those read goes on to that of all. Assumes nothing.
use Rattle.amount.specs.Grammar.{precision}
use Rattle.amount.proofs.Fractions.{Reading}
use Rattle.amount.proofs.parts.fraction.Given as goal

abbrev pub invariant-loop-i : goal.invariant-loop-i
invariant-loop-i l = Reading precision l.text l.value l.scale l.i
