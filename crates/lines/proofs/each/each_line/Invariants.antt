-- `lines::each::each_line` meets its contract: each turn keeps what a call keeps. Assumes nothing.
use Rattle.lines.proofs.each.each_line.Given as goal

abbrev pub invariant-loop : goal.invariant-loop
invariant-loop g l = g.E.EachLine.keeps l.fn.each l.each
