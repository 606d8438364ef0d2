-- `amount::parts::fraction_at` meets its contract, by the laws of digits behind a point. Assumes nothing.
use mathlib.Core.Path.{refl}
use native.Mathlib.Omega.{arith}
use mir.Syntax.{w64}
use mir.Val.{SFits}
use mir.Facts.{to_z-of_z}
use lib.ListN.{length-drop}
use Rattle.amount.specs.Read.{amount_is}
use Rattle.amount.specs.Found.{fraction_is}
use Rattle.amount.proofs.AmountLaws.{proper}
use Rattle.amount.proofs.Amounts.{rest_is, empty, long_fraction, pointed}
use Rattle.amount.proofs.parts.fraction_at.Goals as goal

pub returns-in_default : goal.returns-in_default
unfolding amount_is fraction_is
returns-in_default c = (long_fraction c.requires c.in_default.ensures, refl)

pub returns-then-part-eq0 : goal.returns-then-part-eq0
unfolding amount_is fraction_is
returns-then-part-eq0 c = (empty c.requires c.in-Some.ensures c.if-part-eq0.true, refl)

pub with_sign-frac-requires : goal.with_sign-frac-requires
unfolding fraction_is
with_sign-frac-requires c = omega (arith, c.in-Some.ensures.small)

pub overflow_add-result : goal.overflow_add-result
unfolding fraction_is
overflow_add-result c = let R = rw (rest_is c.args.text.now c.args.from) at c.in-Some.ensures in
    record { fits = omega (arith, R.inside, length-drop c.args.from c.args.text.now) }

pub invariant_of-result : goal.invariant_of-result
unfolding fraction_is
invariant_of-result c = let F : SFits w64 c.with_sign-frac.result = record { sfits = c.with_sign-frac.type_inv } in
    record { proper = rw (to_z-of_z c.ranges.integer, to_z-of_z F) (proper (pointed c.requires c.in-Some.ensures c.if-part-eq0.false c.with_sign-frac.ensures).says) }

pub returns : goal.returns
unfolding amount_is fraction_is
returns c = let F : SFits w64 c.with_sign-frac.result = record { sfits = c.with_sign-frac.type_inv } in
    rw (to_z-of_z c.ranges.integer, to_z-of_z F) (pointed c.requires c.in-Some.ensures c.if-part-eq0.false c.with_sign-frac.ensures)
