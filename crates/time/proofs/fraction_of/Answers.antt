-- `time::fraction_of` meets its contract, by the laws of what follows the seconds. Assumes nothing.
use native.Mathlib.Omega.{arith}
use Rattle.text.proofs.Parts.{rest}
use Rattle.time.proofs.Fractions.{no_fraction, whole_fraction}
use Rattle.time.proofs.fraction_of.Goals as goal

pub returns-then-fraction-eq0-clause-value : goal.returns-then-fraction-eq0-clause-value
returns-then-fraction-eq0-clause-value c = let r = rw (rest c.args.s.now 1) at c.parse_nanos-fraction.ensures in
    let e = rw (rest c.args.s.now 1) at c.then-fraction-eq0.either in
    no_fraction c.args.s.now c.in-len1-up.len_at_least (λ h. omega (arith, e, r.2))

pub returns-clause-value : goal.returns-clause-value
returns-clause-value c = let r = rw (rest c.args.s.now 1) at c.parse_nanos-fraction.ensures in
    let e = rw (rest c.args.s.now 1) at c.if-fraction-digits.false in
    rw r.0
    (whole_fraction c.args.s.now (c.type_inv.s 0).fits (rw c.digit.ensures at c.if-digit.false) (omega (arith, r.2, c.if-fraction-eq0.false)) (omega (arith, e, r.2)))
