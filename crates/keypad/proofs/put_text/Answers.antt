use Rattle.std.proofs.Common.{arith}
use Rattle.keypad.specs.Answer.{text_of}
use Rattle.keypad.proofs.Agreement.{of_one, of_two, of_three}
use Rattle.keypad.proofs.put_text.Goals as goal

pub returns-then-k-lt-OF_ONE-clause-text : goal.returns-then-k-lt-OF_ONE-clause-text
unfolding text_of
returns-then-k-lt-OF_ONE-clause-text c = rw (of_one c.args.k (omega (arith, c.if-k-lt-OF_ONE.true))) c.amount_turn.ensures

pub returns-then-k-lt-TO_TWO-clause-text : goal.returns-then-k-lt-TO_TWO-clause-text
unfolding text_of
returns-then-k-lt-TO_TWO-clause-text c = rw (of_two c.args.k (omega (arith, c.if-k-lt-OF_ONE.false)) (omega (arith, c.if-k-lt-TO_TWO.true))) c.amount_turn-then-k-lt-TO_TWO.ensures

pub returns-else-k-lt-TO_TWO-clause-text : goal.returns-else-k-lt-TO_TWO-clause-text
unfolding text_of
returns-else-k-lt-TO_TWO-clause-text c = rw (of_three c.args.k (omega (arith, c.if-k-lt-TO_TWO.false))) c.amount_turn-else-k-lt-TO_TWO.ensures
