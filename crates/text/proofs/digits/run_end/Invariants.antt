-- `text::digits::run_end` meets its contract. The loop's invariant: what is left of the run ends where the whole does. Assumes nothing.
use Rattle.std.proofs.Common.{◌≡◌, ◌+◌, ◌-◌, ◌≤◌, length, drop}
use Rattle.text.specs.Digits.{run}
use Rattle.text.proofs.digits.run_end.Given as goal

abbrev pub invariant-loop-i : goal.invariant-loop-i
invariant-loop-i l = record {
  inside : l.i ≤ length l.s;
  run_so_far : l.i + run (drop l.i l.s) ≡ l.from + run (drop l.from l.s);
}

abbrev pub decreases-loop-i : goal.decreases-loop-i
decreases-loop-i l = length l.s - l.i
