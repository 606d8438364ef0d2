-- The loop's invariant: the other records of those before this one, and behind them what was there. Assumes nothing.
use lib.ListN.{take}
use Rattle.records.specs.Answer.{old_record}
use Rattle.records.proofs.Loops.{Stored}
use Rattle.records.proofs.slices.store_day_times.Given as goal

abbrev pub invariant-loop-i : goal.invariant-loop-i
invariant-loop-i l = Stored old_record 8 l.i (take l.i l.records) l.initial.to l.to
