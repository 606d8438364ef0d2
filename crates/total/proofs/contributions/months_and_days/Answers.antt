-- `total::contributions::months_and_days` meets its contract, by the laws of an amount's whole part and its fraction. Assumes nothing.
use mathlib.Core.Path.{refl, ap, ◌∙◌}
use native.Mathlib.Omega.{arith}
use borrow.Author.Rules.{rules}
use lib.IntN.{pos}
use mir.Syntax.{w32, w64}
use mir.Val.{SFits}
use Rattle.number.specs.Widths.{fit}
use Rattle.amount.specs.Grammar.{precision}
use Rattle.amount.specs.Read.{value_of}
use Rattle.rule.specs.Contribution.{whole_times, frac_times}
use Rattle.total.proofs.Adding.{part_times, whole_once, fit_read, three, no_months}
use Rattle.total.proofs.contributions.months_and_days.Goals as goal

pub returns-in_err-narrow : goal.returns-in_err-narrow
returns-in_err-narrow c = let x = c.args.amount in
    let F : SFits w64 x.integer = search rules in
    rw c.from_residual.ensures (no_months (whole_times 1 (value_of x)) (frac_times precision 30 (value_of x)) (pos 0) (c.in_err-narrow.ensures ∙ ap (fit 31) (whole_once x F x.proper.small)))

pub returns : goal.returns
returns c = let x = c.args.amount in
    let F : SFits w64 x.integer = search rules in
    let e = c.in_ok-narrow.ensures ∙ ap (fit 31) (whole_once x F x.proper.small) in
    let f = c.in_ok-narrow-2.ensures ∙ ap (fit 31) (part_times x F x.proper.small 30 3 100_000_000_000_000 (omega arith) (omega arith) refl c.cut.ensures) in
    rw (fit_read w32 c.in_ok-narrow.field-0 (whole_times 1 (value_of x)) e, fit_read w32 c.in_ok-narrow-2.field-0 (frac_times precision 30 (value_of x)) f)
    (three (whole_times 1 (value_of x)) (frac_times precision 30 (value_of x)) (pos 0) e f refl)
