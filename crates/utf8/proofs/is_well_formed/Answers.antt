use mathlib.Core.Path.{sym, ◌∙◌}
use Rattle.utf8.proofs.Utf8Steps.{first, next, none, at_end}
use Rattle.utf8.proofs.is_well_formed.Goals as goal
use Rattle.utf8.proofs.is_well_formed.Goals.{then-follow-eq0, else-follow-eq0+then-takes}

pub returns-else-takes : goal.returns-else-takes
returns-else-takes c = sym (none c.args.s.now c.loop-b.b-index c.loop-b.follow.low c.loop-b.follow.high c.loop-b-test.true c.loop-b.follow.count c.if-follow-eq0.false (sym c.takes.ensures ∙ c.if-takes.false)) ∙ c.loop-b.invariant

pub loop-b-preserved : goal.loop-b-preserved
loop-b-preserved c = let s = c.args.s.now in
    let f = c.loop-b.follow in
    let h = c.loop-b-test.true in
    elim c.if-follow-eq0.branch [
      | then-follow-eq0 w ↦ rw w.follow-is (sym (first s c.loop-b.b-index f.count f.low f.high w.follow-follow.result h w.if-follow-eq0.true w.follow-follow.ensures) ∙ c.loop-b.invariant)
      | else-follow-eq0+then-takes w ↦ rw (w.follow-is, w.later-follow-then-takes.ensures) (sym (next s c.loop-b.b-index f.low f.high h f.count w.if-follow-eq0.false (sym w.takes.ensures ∙ w.if-takes.true)) ∙ c.loop-b.invariant)
    ]

pub returns : goal.returns
returns c = sym (at_end c.args.s.now c.loop-b.b-index c.loop-b.follow.count c.loop-b.follow.low c.loop-b.follow.high c.loop-b-test.false) ∙ c.loop-b.invariant
