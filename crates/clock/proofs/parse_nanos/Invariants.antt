-- `clock::parse_nanos` meets its contract. The loop's invariant: the digits from i on, behind the number of those before, are what all
-- count, and with those before as many as all. Assumes nothing.
use Rattle.std.proofs.Common.{◌≡◌, ◌+◌, ◌-◌, ◌≤◌, length, drop}
use Rattle.text.specs.Digits.{run}
use Rattle.clock.specs.Clock.{nanos_of}
use Rattle.clock.proofs.Nanos.{behind, led}
use Rattle.clock.proofs.parse_nanos.Given as goal

abbrev pub invariant-loop-i : goal.invariant-loop-i
invariant-loop-i l = record {
  counted : behind (9 - l.i) l.nanos (led (drop l.i l.s)) ≡ nanos_of (led l.s);
  inside : l.i ≤ length l.s;
  run_so_far : l.i + run (drop l.i l.s) ≡ run l.s;
}
