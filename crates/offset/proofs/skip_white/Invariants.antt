-- `offset::skip_white` meets its contract. The loop's invariant: what is left of the white space ends where the whole does. Assumes nothing.
use Rattle.std.proofs.Common.{◌≡◌, ◌-◌, length, drop}
use Rattle.offset.specs.Answer.{drop_white}
use Rattle.offset.proofs.skip_white.Given as goal

abbrev pub invariant-loop-from : goal.invariant-loop-from
invariant-loop-from l = drop_white 0 (drop l.i l.s) ≡ drop_white 0 (drop l.from l.s)

abbrev pub decreases-loop-from : goal.decreases-loop-from
decreases-loop-from l = length l.s - l.i
