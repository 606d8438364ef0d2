-- `amount::parts::whole` meets its contract. The loop's invariant: what is read so far goes on to the number of the digits, and
-- they end where the run does. Assumes nothing.
use mathlib.Core.Path.{◌≡◌}
use Prim.Native.Nat.{◌+◌, ◌≤◌}
use lib.ListN.{drop}
use Rattle.text.specs.Digits.{run}
use Rattle.amount.specs.Found.{cap}
use Rattle.amount.proofs.Amounts.{number_on}
use Rattle.amount.proofs.parts.whole.Given as goal

abbrev pub invariant-loop-i : goal.invariant-loop-i
invariant-loop-i l = (l.value ≤ cap) × (number_on l.text l.i l.value ≡ number_on l.text 0 0) × (l.i + run (drop l.i l.text) ≡ run l.text)
