use mathlib.Core.Path.{◌≡◌}
use native.Mathlib.Omega.{arith}
use lib.ListN.{length}
use Rattle.amount.specs.Found.{fraction_is}
use Rattle.text.proofs.DigitLaws.{run_off, run_end}
use Rattle.amount.proofs.Fractions.{size_below, number_below, all_read, too_many, reading_next}
use Rattle.amount.proofs.parts.fraction.Goals as goal

pub overflow_mul-result : goal.overflow_mul-result
overflow_mul-result c = let b = size_below c.loop-i.invariant in
    record { fits = omega arith }

pub returns-then-d-ge10 : goal.returns-then-d-ge10
unfolding fraction_is
returns-then-d-ge10 c = all_read c.loop-i.invariant (omega arith) (run_off c.args.text.now c.loop-i.i c.digit-d.result c.loop-i-test.true (c.type_inv.text c.loop-i.i).fits c.digit-d.ensures c.if-d-ge10.true)

pub returns-then-scale-eq1 : goal.returns-then-scale-eq1
unfolding fraction_is
returns-then-scale-eq1 c = too_many c.loop-i.invariant c.loop-i-test.true (c.type_inv.text c.loop-i.i).fits c.digit-d.ensures c.if-d-ge10.false c.if-scale-eq1.true

pub overflow_mul-value : goal.overflow_mul-value
overflow_mul-value c = let v = number_below c.loop-i.invariant in
    record { fits = omega arith }

pub overflow_add-value : goal.overflow_add-value
overflow_add-value c = let v = number_below c.loop-i.invariant in
    record { fits = omega arith }

pub loop-i-preserved : goal.loop-i-preserved
loop-i-preserved c = rw c.from.ensures (reading_next c.loop-i.invariant c.loop-i-test.true (c.type_inv.text c.loop-i.i).fits c.digit-d.ensures c.if-d-ge10.false c.if-scale-eq1.false)

pub overflow_mul-result-2 : goal.overflow_mul-result-2
overflow_mul-result-2 c = let b = size_below c.loop-i.invariant in
    record { fits = omega arith }

pub returns : goal.returns
unfolding fraction_is
returns c = let e : c.loop-i.i ≡ length c.args.text.now = omega arith in
    rw e at (all_read c.loop-i.invariant (omega arith) (run_end c.args.text.now c.loop-i.i c.loop-i-test.false))
