-- `number::parse::digits_after` meets its contract. The loop's invariant: what is read so far goes on to the digits and the number of
-- the whole. Assumes nothing.
use Rattle.number.proofs.Reading.{GoesOn}
use Rattle.number.proofs.parse.digits_after.Given as goal

abbrev pub invariant-loop-b : goal.invariant-loop-b
invariant-loop-b l = GoesOn l.s 0 l.b-index l.a
