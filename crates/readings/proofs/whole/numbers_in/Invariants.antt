-- `readings::whole::numbers_in` is safe and ends: each turn takes a byte of the numbers or more. Assumes nothing.
use Rattle.std.proofs.Common.{length}
use Rattle.readings.proofs.whole.numbers_in.Given as goal

abbrev pub decreases-loop-numbers : goal.decreases-loop-numbers
decreases-loop-numbers l = length l.rest
