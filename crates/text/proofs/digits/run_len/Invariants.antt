-- `text::digits::run_len` meets its contract. The loop's invariant: what is left of the run ends where the whole does. Assumes nothing.
use Rattle.std.proofs.Common.{◌≡◌, ◌+◌, drop}
use Rattle.text.specs.Digits.{run}
use Rattle.text.proofs.digits.run_len.Given as goal

abbrev pub invariant-loop-i : goal.invariant-loop-i
invariant-loop-i l = l.i + run (drop l.i l.s) ≡ run l.s
