-- `total::Interval::add` meets its contract: the contribution fits and goes to the totals, or it does not. Assumes nothing.
use mathlib.Core.Path.{◌∙◌}
use Rattle.amount.specs.Grammar.{precision}
use Rattle.amount.specs.Read.{value_of}
use Rattle.total.specs.Read.{counts_of}
use Rattle.rule.specs.Contribution.{contribution}
use Rattle.total.proofs.Adding.{adds, over}
use Rattle.total.proofs.Interval.add.Goals as goal

pub returns-in_err-contribution : goal.returns-in_err-contribution
returns-in_err-contribution c = rw c.from_residual.ensures (over (counts_of c.args.self) (contribution precision c.args.unit (value_of c.args.amount)) c.in_err-contribution.ensures)

pub returns : goal.returns
returns c = c.plus.ensures ∙ adds (counts_of c.args.self) (contribution precision c.args.unit (value_of c.args.amount)) c.in_ok-contribution.ensures
