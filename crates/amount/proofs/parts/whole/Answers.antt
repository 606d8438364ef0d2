use mathlib.Core.Path.{sym, ◌∙◌}
use native.Mathlib.Omega.{arith}
use Rattle.text.proofs.DigitLaws.{run_on, run_off, run_end}
use Rattle.amount.proofs.Amounts.{number_end, number_off, number_more}
use Rattle.amount.proofs.parts.whole.Goals as goal

pub returns-then-d-ge10 : goal.returns-then-d-ge10
returns-then-d-ge10 c = let s = c.args.text.now in
    let b = (c.type_inv.text c.loop-i.i).fits in
    record {
      value_is = sym (omega (arith, number_off s c.loop-i.i c.loop-i.value c.loop-i-test.true b c.digit-d.ensures c.if-d-ge10.true));
      len_is = omega (arith, run_off s c.loop-i.i c.digit-d.result c.loop-i-test.true b c.digit-d.ensures c.if-d-ge10.true);
      inside = omega arith;
    }

pub loop-i-preserved : goal.loop-i-preserved
loop-i-preserved c = let s = c.args.text.now in
    let b = (c.type_inv.text c.loop-i.i).fits in
    (omega arith, rw (c.push-value.ensures, c.from.ensures) (sym (number_more s c.loop-i.i c.loop-i.value c.loop-i-test.true b c.digit-d.ensures c.if-d-ge10.false) ∙ c.loop-i.invariant.1), omega (arith, run_on s c.loop-i.i c.digit-d.result c.loop-i-test.true b c.digit-d.ensures c.if-d-ge10.false))

pub returns : goal.returns
returns c = let s = c.args.text.now in
    record {
      value_is = sym (omega (arith, number_end s c.loop-i.i c.loop-i.value c.loop-i-test.false));
      len_is = omega (arith, run_end s c.loop-i.i c.loop-i-test.false);
      inside = omega arith;
    }
