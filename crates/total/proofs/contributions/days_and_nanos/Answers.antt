-- `total::contributions::days_and_nanos` meets its contract, by the laws of an amount's whole part and its fraction. Assumes nothing.
use mathlib.Core.Path.{refl, ap, ◌∙◌}
use native.Mathlib.Omega.{arith}
use borrow.Author.Rules.{rules}
use lib.IntN.{pos}
use Prim.Native.Nat.{◌*◌}
use mir.Syntax.{w32, w64}
use mir.Val.{SFits}
use Rattle.number.specs.Widths.{fit}
use Rattle.amount.specs.Grammar.{precision}
use Rattle.amount.specs.Read.{value_of}
use Rattle.rule.specs.Contribution.{whole_times, frac_times}
use Rattle.total.proofs.Adding.{cut_whole, cut_fits, fit_read, three, no_days}
use Rattle.total.proofs.contributions.days_and_nanos.Goals as goal

pub returns-in_err-count32 : goal.returns-in_err-count32
returns-in_err-count32 c = let x = c.args.amount in
    let F : SFits w64 x.integer = search rules in
    rw c.from_residual.ensures (no_days (pos 0) (whole_times c.args.k (value_of x)) (frac_times precision (c.args.a * 100_000_000_000) (value_of x)) (c.in_err-count32.ensures ∙ ap (fit 31) (cut_whole x F x.proper.small c.args.k)))

pub returns : goal.returns
returns c = let x = c.args.amount in
    let F : SFits w64 x.integer = search rules in
    let e = c.in_ok-count32.ensures ∙ ap (fit 31) (cut_whole x F x.proper.small c.args.k) in
    rw (fit_read w32 c.in_ok-count32.field-0 (whole_times c.args.k (value_of x)) e)
    (three (pos 0) (whole_times c.args.k (value_of x)) (frac_times precision (c.args.a * 100_000_000_000) (value_of x)) refl e (cut_fits x F x.proper.small (c.args.a * 100_000_000_000) c.args.a 10_000 c.requires (omega arith) (omega arith) c.cut.ensures))
