-- `total::contributions::nanoseconds` meets its contract, by the law of an amount that is not cut. Assumes nothing.
use mathlib.Core.Path.{refl}
use borrow.Author.Rules.{rules}
use lib.IntN.{pos}
use mir.Syntax.{w64}
use mir.Val.{SFits}
use Rattle.amount.specs.Grammar.{precision}
use Rattle.amount.specs.Read.{value_of}
use Rattle.amount.proofs.AmountLaws.{one_sign_lem}
use Rattle.rule.specs.Contribution.{times}
use Rattle.total.proofs.Adding.{whole_fits_lem, three}
use Rattle.total.proofs.contributions.nanoseconds.Goals as goal

pub returns : goal.returns
returns c = let x = c.args.amount in
    let F : SFits w64 x.integer = search rules in
    three (pos 0) (pos 0) (times precision 1 (value_of x)) refl refl (whole_fits_lem x F x.proper.small (one_sign_lem x.integer x.frac x.proper.signs))
