use Rattle.std.proofs.Common.{sym, ◌∙◌, arith}
use Rattle.text.proofs.DigitLaws.{run_end}
use Rattle.text.proofs.Eights.{inside_eight, run_eight}
use Rattle.text.proofs.Parts.{rest}
use Rattle.text.proofs.digits.run_end.Goals as goal

pub returns-then-s-from : goal.returns-then-s-from
returns-then-s-from c = (omega (arith, run_end c.args.s.now c.args.from c.if-s-from.true), λ h. h)

pub loop-i-preserved : goal.loop-i-preserved
loop-i-preserved c = let s = c.args.s.now in let i = c.loop-i.i in
    let e = rw (rest s i) at (sym c.eight_digits.ensures ∙ c.loop-i-test.true) in
    record { inside = inside_eight s i e; run_so_far = omega (arith, run_eight s i e, c.loop-i.invariant.run_so_far) }
