-- `total::contributions::months` meets its contract, by the laws of an amount times a factor. Assumes nothing.
use mathlib.Core.Path.{refl, ap, ◌∙◌}
use borrow.Author.Rules.{rules}
use lib.IntN.{pos}
use mir.Syntax.{w32, w64}
use mir.Val.{SFits}
use Rattle.number.specs.Widths.{fit}
use Rattle.amount.specs.Grammar.{precision}
use Rattle.amount.specs.Read.{value_of}
use Rattle.amount.proofs.AmountLaws.{one_sign_lem}
use Rattle.rule.specs.Contribution.{times}
use Rattle.total.proofs.Adding.{part_most, cut_times, fit_read, three, no_months}
use Rattle.total.proofs.contributions.months.Goals as goal

pub count32-requires : goal.count32-requires
count32-requires c = part_most c.args.amount.frac c.args.amount.proper.small c.args.a c.args.c c.requires.1.factor_fits c.cut.ensures c.requires.1.divides c.requires.1.same c.requires.0

pub returns-in_err-count32 : goal.returns-in_err-count32
returns-in_err-count32 c = let x = c.args.amount in
    let F : SFits w64 x.integer = search rules in
    rw c.from_residual.ensures (no_months (times precision c.args.k (value_of x)) (pos 0) (pos 0) (c.in_err-count32.ensures ∙ ap (fit 31) (cut_times x F x.proper.small c.args.k c.args.a c.args.c c.requires.1.factor_fits c.requires.1.divides c.requires.1.same c.cut.ensures (one_sign_lem x.integer x.frac x.proper.signs))))

pub returns : goal.returns
returns c = let x = c.args.amount in
    let F : SFits w64 x.integer = search rules in
    let e = c.in_ok-count32.ensures ∙ ap (fit 31) (cut_times x F x.proper.small c.args.k c.args.a c.args.c c.requires.1.factor_fits c.requires.1.divides c.requires.1.same c.cut.ensures (one_sign_lem x.integer x.frac x.proper.signs)) in
    rw (fit_read w32 c.in_ok-count32.field-0 (times precision c.args.k (value_of x)) e) (three (times precision c.args.k (value_of x)) (pos 0) (pos 0) e refl refl)
