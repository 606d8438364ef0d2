use Rattle.std.proofs.Common.{arith, rules}
use Rattle.text.proofs.DigitLaws.{run_on, run_off, run_end}
use Rattle.text.proofs.digits.run_len.Goals as goal

pub returns-then-digit-ge10 : goal.returns-then-digit-ge10
returns-then-digit-ge10 c = let s = c.args.s.now in
    (omega (arith, c.loop-i.invariant, run_off s c.loop-i.i c.digit.result c.loop-i-test.true (c.type_inv.s c.loop-i.i).fits c.digit.ensures c.if-digit-ge10.true), search rules)

pub loop-i-preserved : goal.loop-i-preserved
loop-i-preserved c = let s = c.args.s.now in
    omega (arith, c.loop-i.invariant, run_on s c.loop-i.i c.digit.result c.loop-i-test.true (c.type_inv.s c.loop-i.i).fits c.digit.ensures c.if-digit-ge10.false)

pub returns : goal.returns
returns c = (omega (arith, c.loop-i.invariant, run_end c.args.s.now c.loop-i.i c.loop-i-test.false), search rules)
