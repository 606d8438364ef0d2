-- `amount::amount_at` meets its contract, by the laws of a sign; nothing stands past the end. Assumes nothing.
use mathlib.Core.Path.{refl}
use native.Mathlib.Omega.{arith}
use Rattle.amount.specs.Grammar.{precision}
use Rattle.amount.specs.Read.{amount_is}
use Rattle.amount.proofs.AmountLaws.{past_text}
use Rattle.amount.proofs.Amounts.{sign_minus, sign_none}
use borrow.Author.Tests.{eq-eqb, ne_eqb}
use Rattle.amount.proofs.amount_at.Goals as goal
use Rattle.amount.proofs.amount_at.Goals.{then-neg, else-neg}

pub returns-then-text-at : goal.returns-then-text-at
unfolding amount_is
returns-then-text-at c = (past_text precision c.args.text.now c.args.at (omega (arith, c.if-text-at.true)), refl)

pub unsigned_at-requires : goal.unsigned_at-requires
unsigned_at-requires c =
    elim c.if-neg.branch [
      | then-neg w ↦ sign_minus c.args.text.now c.args.at c.byte_at-neg.ensures (eq-eqb _ _ w.if-neg.true) w.from-is
      | else-neg w ↦ sign_none c.args.text.now c.args.at c.byte_at-neg.ensures (omega (arith, c.if-text-at.false)) (ne_eqb _ _ w.if-neg.false) w.from-is
    ]
