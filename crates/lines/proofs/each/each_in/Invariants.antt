-- `lines::each::each_in` meets its contract and ends: each turn keeps what a call keeps, and takes a byte of the input or more. Assumes nothing.
use Rattle.std.proofs.Common.{length}
use Rattle.lines.proofs.each.each_in.Given as goal

abbrev pub decreases-loop-behind : goal.decreases-loop-behind
decreases-loop-behind g l = length l.rest

abbrev pub invariant-loop-behind : goal.invariant-loop-behind
invariant-loop-behind g l = g.E.EachLine.keeps l.fn.each l.each
