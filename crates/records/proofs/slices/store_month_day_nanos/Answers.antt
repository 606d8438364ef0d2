use mathlib.Core.Path.{ap, ◌∙◌}
use Rattle.std.proofs.Common.{Some, add-one, rules}
use Rattle.records.specs.Answer.{new_record}
use Rattle.records.proofs.Loops.{begun, stored, all_stored}
use Rattle.records.proofs.slices.store_month_day_nanos.Goals as goal

pub loop-i-init : goal.loop-i-init
loop-i-init c = begun new_record 16 c.args.to.now

pub loop-i-preserved : goal.loop-i-preserved
loop-i-preserved c =
    let bytes = ap Some c.copy_from_slice.ensures.after ∙ c.new_record.ensures in
    rw add-one (stored new_record 16 c.args.records.now c.loop-i.i c.loop-i-test.true bytes (search rules) c.loop-i.invariant)

pub returns : goal.returns
returns c = all_stored new_record 16 c.args.records.now c.loop-i.i c.args.to.now c.loop-i.to c.loop-i-test.false c.loop-i.auto.i-end c.loop-i.invariant
