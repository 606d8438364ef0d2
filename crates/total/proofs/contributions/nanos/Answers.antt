-- `total::contributions::nanos` meets its contract, by the laws of an amount times a factor. Assumes nothing.
use mathlib.Core.Path.{refl, ap, ◌∙◌}
use borrow.Author.Rules.{rules}
use lib.IntN.{pos}
use mir.Syntax.{w64}
use mir.Val.{SFits}
use Rattle.number.specs.Widths.{fit}
use Rattle.amount.specs.Grammar.{precision}
use Rattle.amount.specs.Read.{value_of}
use Rattle.amount.proofs.AmountLaws.{one_sign_lem}
use Rattle.rule.specs.Contribution.{times}
use Rattle.total.proofs.Adding.{cut_times, same_sign, ratio_small, fit_read, three, no_nanos}
use Rattle.total.proofs.contributions.nanos.Goals as goal

pub count64-requires : goal.count64-requires
count64-requires c = let x = c.args.amount in
    let F : SFits w64 x.integer = search rules in
    (ratio_small c.requires, same_sign x F x.proper.small c.args.k c.args.a c.args.c c.requires.factor_fits c.requires.divides c.requires.same c.cut.ensures (one_sign_lem x.integer x.frac x.proper.signs))

pub returns-in_err-count64 : goal.returns-in_err-count64
returns-in_err-count64 c = let x = c.args.amount in
    let F : SFits w64 x.integer = search rules in
    rw c.from_residual.ensures (no_nanos (pos 0) (pos 0) (times precision c.args.k (value_of x)) (c.in_err-count64.ensures ∙ ap (fit 63) (cut_times x F x.proper.small c.args.k c.args.a c.args.c c.requires.factor_fits c.requires.divides c.requires.same c.cut.ensures (one_sign_lem x.integer x.frac x.proper.signs))))

pub returns : goal.returns
returns c = let x = c.args.amount in
    let F : SFits w64 x.integer = search rules in
    let e = c.in_ok-count64.ensures ∙ ap (fit 63) (cut_times x F x.proper.small c.args.k c.args.a c.args.c c.requires.factor_fits c.requires.divides c.requires.same c.cut.ensures (one_sign_lem x.integer x.frac x.proper.signs)) in
    rw (fit_read w64 c.in_ok-count64.field-0 (times precision c.args.k (value_of x)) e) (three (pos 0) (pos 0) (times precision c.args.k (value_of x)) refl refl e)
