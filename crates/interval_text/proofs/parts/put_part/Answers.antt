use mir.Facts.{to_z-of_z}
use Rattle.std.proofs.Common.{rules}
use Rattle.interval_text.proofs.Spacing.{left_out, put_in}
use Rattle.interval_text.proofs.parts.put_part.Goals as goal

pub returns-then-z-eq0 : goal.returns-then-z-eq0
returns-then-z-eq0 c = left_out c.args.z c.args.word.now (search rules) (search rules) (search rules)

pub returns : goal.returns
returns c = put_in c.args.z (to_z-of_z c.ranges.z) (search rules) c.space.ensures c.put-from.ensures c.put_number-end.ensures c.put.ensures
