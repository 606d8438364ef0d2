use mir.Facts.{to_z-of_z}
use Rattle.std.proofs.Common.{rules}
use Rattle.interval_text.proofs.Spacing.{not_zero, all_zero, widened}
use Rattle.interval_text.proofs.put_counts.Goals as goal

pub returns-then-at-eq0-clause-text : goal.returns-then-at-eq0-clause-text
returns-then-at-eq0-clause-text c =
    all_zero c.put_part-at.ensures c.put_part-at-2.ensures c.put_part-at-3.ensures (widened c.ranges.months c.from.ensures)
    (widened c.ranges.days c.from-2.ensures) (to_z-of_z c.ranges.nanos) (search rules) c.put.ensures

pub returns-clause-text : goal.returns-clause-text
returns-clause-text c =
    not_zero c.put_part-at.ensures c.put_part-at-2.ensures c.put_part-at-3.ensures (widened c.ranges.months c.from.ensures)
    (widened c.ranges.days c.from-2.ensures) (to_z-of_z c.ranges.nanos) (search rules)
