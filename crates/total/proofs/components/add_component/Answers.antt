-- `total::components::add_component` meets its contract: the totals with the component, or where they first did not fit. Assumes nothing.
use Rattle.amount.specs.Grammar.{precision}
use Rattle.amount.specs.Read.{value_of}
use Rattle.rule.specs.Contribution.{contribution}
use Rattle.total.proofs.Ahead.{added_to}
use Rattle.total.proofs.components.add_component.Goals as goal

pub returns : goal.returns
returns c = rw c.ok_or.ensures.value (added_to c.in_ok-total.was (contribution precision c.args.unit (value_of c.args.amount)) c.args.at c.add.result c.add.ensures)
