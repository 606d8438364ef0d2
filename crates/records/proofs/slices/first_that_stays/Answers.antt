use mathlib.Core.Path.{sym, ap, ◌∙◌}
use mathlib.Core.Bool.{not}
use Rattle.std.specs.Option.{is_some}
use Rattle.std.proofs.Common.{add-one}
use Rattle.records.specs.Answer.{old_record}
use Rattle.records.proofs.Loops.{goes_on, found, ended}
use Rattle.records.proofs.slices.first_that_stays.Goals as goal

pub returns-then-is_none : goal.returns-then-is_none
returns-then-is_none c =
    let stays = ap is_some (sym c.old_record.ensures) ∙ c.is_none.ensures ∙ ap not c.if-is_none.true in
    sym (c.loop-i.invariant ∙ found old_record c.args.records.now c.loop-i.i c.loop-i-test.true stays)

pub loop-i-preserved : goal.loop-i-preserved
loop-i-preserved c =
    let goes = ap is_some (sym c.old_record.ensures) ∙ c.is_none.ensures ∙ ap not c.if-is_none.false in
    rw add-one (c.loop-i.invariant ∙ goes_on old_record c.args.records.now c.loop-i.i c.loop-i-test.true goes)

pub returns : goal.returns
returns c = sym (c.loop-i.invariant ∙ ended old_record c.args.records.now c.loop-i.i c.loop-i-test.false)
