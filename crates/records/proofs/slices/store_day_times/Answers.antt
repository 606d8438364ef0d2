use mathlib.Core.Path.{sym, ap, ◌∙◌}
use Rattle.std.specs.Option.{is_some}
use Rattle.std.proofs.Common.{Some, add-one, rules}
use Rattle.records.specs.Answer.{old_record}
use Rattle.records.proofs.Loops.{each_goes, begun, stored, all_stored}
use Rattle.records.proofs.slices.store_day_times.Goals as goal

pub loop-i-init : goal.loop-i-init
loop-i-init c = begun old_record 8 c.args.to.now

pub unwrap-old-requires : goal.unwrap-old-requires
unwrap-old-requires c = ap is_some c.old_record.ensures ∙ each_goes old_record 0 c.args.records.now c.requires.each c.loop-i.i c.loop-i-test.true

pub loop-i-preserved : goal.loop-i-preserved
loop-i-preserved c =
    let bytes = ap Some c.copy_from_slice.ensures.after ∙ sym c.unwrap-old.ensures ∙ c.old_record.ensures in
    rw add-one (stored old_record 8 c.args.records.now c.loop-i.i c.loop-i-test.true bytes (search rules) c.loop-i.invariant)

pub returns : goal.returns
returns c = all_stored old_record 8 c.args.records.now c.loop-i.i c.args.to.now c.loop-i.to c.loop-i-test.false c.loop-i.auto.i-end c.loop-i.invariant
