-- `component::split::split_interval_component` meets its contract: an amount and what follows it, or no amount. Assumes nothing.
use mathlib.Core.Path.{◌∙◌}
use native.Mathlib.Omega.{arith}
use lib.ListN.{drop}
use Rattle.std.proofs.lemmas.Result.{err_from_is_err_and}
use Rattle.amount.specs.Grammar.{precision}
use Rattle.component.specs.Read.{piece_is}
use Rattle.amount.specs.Read.{amount_is}
use Rattle.component.proofs.Steps.{no_amount}
use Rattle.component.proofs.Faults.{no_amount_fault}
use Rattle.component.proofs.split.split_interval_component.Goals as goal

pub returns-in_err-amount : goal.returns-in_err-amount
unfolding amount_is piece_is
returns-in_err-amount c = let n = c.in_err-amount.ensures in
    let p = err_from_is_err_and c.from_residual.result c.from_residual.ensures.1 in
    rw (p.1, p.2) (no_amount precision c.args.text.now c.args.at n.0, n.1 ∙ omega (arith, no_amount_fault precision (drop c.args.at c.args.text.now) n.0))

pub unit_at-requires : goal.unit_at-requires
unfolding amount_is
unit_at-requires c = c.in_ok-amount.ensures
