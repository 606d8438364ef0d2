-- `unit::letters::letters_at` meets its contract, by the laws of one letter more. The loop's invariant: the letters passed are packed.
-- The measure is what is left of the text. Assumes nothing.
use Prim.Native.Nat.{◌-◌, ◌≤◌, ◌<◌}
use lib.ListN.{length, take, drop}
use Rattle.unit.specs.Keys.{Packed}
use Rattle.unit.proofs.letters.letters_at.Given as goal

abbrev pub invariant-loop-letter : goal.invariant-loop-letter
invariant-loop-letter l = (l.from ≤ l.end) × (l.end ≤ length l.text) × (l.key < 1152921504606846976) × Packed (take (l.end - l.from) (drop l.from l.text)) l.key

abbrev pub decreases-loop-letter : goal.decreases-loop-letter
decreases-loop-letter l = length l.text - l.end
