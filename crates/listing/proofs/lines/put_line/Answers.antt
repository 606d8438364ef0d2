use Rattle.std.proofs.Common.{rules}
use Rattle.listing.proofs.Putting.{one_line}
use Rattle.listing.proofs.lines.put_line.Goals as goal

pub returns : goal.returns
returns c =
    one_line c.args.unit c.put-at.ensures c.put-at-2.ensures c.put-at-3.ensures c.put_number-at.ensures c.put-at-4.ensures c.put_number-at-2.ensures c.put.ensures c.name.ensures (search rules) (search rules)
