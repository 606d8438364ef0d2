use Rattle.std.proofs.Common.{rules, w64, ◌∙◌, arith}
use Rattle.number.proofs.Reading.{no_digit_here, too_long, one_more, whole}
use Rattle.number.proofs.parse.digits_after.Goals as goal

pub returns-then-d-ge10 : goal.returns-then-d-ge10
returns-then-d-ge10 c = no_digit_here w64 c.args.neg (search rules) c.loop-b.invariant c.loop-b-test.true
    (c.type_inv.s c.loop-b.b-index).fits c.digit-d.ensures c.if-d-ge10.true

pub returns-in_err-checked_mul : goal.returns-in_err-checked_mul
returns-in_err-checked_mul c = c.from_residual.ensures ∙ too_long w64 c.args.neg (search rules) c.loop-b.invariant c.loop-b-test.true
    (c.type_inv.s c.loop-b.b-index).fits c.digit-d.ensures c.if-d-ge10.false (omega arith)

pub returns-in_err-a : goal.returns-in_err-a
returns-in_err-a c = c.from_residual-in_err-a.ensures ∙ too_long w64 c.args.neg (search rules) c.loop-b.invariant c.loop-b-test.true
    (c.type_inv.s c.loop-b.b-index).fits c.digit-d.ensures c.if-d-ge10.false (omega arith)

pub loop-b-preserved : goal.loop-b-preserved
loop-b-preserved c = one_more c.loop-b.invariant c.loop-b-test.true (c.type_inv.s c.loop-b.b-index).fits c.digit-d.ensures c.if-d-ge10.false (omega arith)

pub returns : goal.returns
returns c = c.signed_i64.ensures ∙
    whole w64 c.args.neg (search rules) c.loop-b.invariant (search rules)
