use mathlib.Core.Path.{◌∙◌}
use native.Mathlib.Omega.{arith}
use Rattle.std.proofs.Common.{rules}
use Rattle.amount.specs.Grammar.{precision}
use Rattle.component.specs.Read.{LastIs, MoreIs, piece_is, place_after, taken_is}
use Rattle.unit.proofs.WordLaws.{or_else_lem}
use Rattle.listing.proofs.Ahead.{starts, none_here, last_here, more_here}
use Rattle.listing.proofs.lines.put_lines.Goals as goal

pub loop-piece-init : goal.loop-piece-init
loop-piece-init c = (omega arith, starts c.args.default_unit c.args.text.now c.args.buffer.now (search rules))

pub returns-in-Err : goal.returns-in-Err
unfolding piece_is taken_is place_after
returns-in-Err c = let e = rw (c.in-Err.is) at c.component-taken.ensures in λ d h. absurd (none_here c.loop-piece.invariant.1 e.0.0 d h)

pub returns-in-Last : goal.returns-in-Last
unfolding piece_is taken_is place_after
returns-in-Last c =
    let e = rw (c.in-Ok.is, c.in-Last.is) at c.component-taken.ensures in
    let l : LastIs precision c.args.text.now c.loop-piece.place c.in-Last.amount c.in-Last.word = e.0 in
    last_here c.loop-piece.invariant.1 c.unwrap_or.result l (c.unwrap_or.ensures ∙ or_else_lem c.args.default_unit c.in-Last.word) c.put_line.ensures

pub loop-piece-smaller : goal.loop-piece-smaller
unfolding piece_is taken_is place_after
loop-piece-smaller c =
    let e = rw (c.in-Ok.is, c.in-More.is) at c.component-taken.ensures in
    let m : MoreIs precision c.args.text.now c.loop-piece.place c.in-More.amount c.in-More.unit c.in-More.field-2 = e.0 in
    omega (arith, m.further, m.inside, e.1)

pub loop-piece-preserved : goal.loop-piece-preserved
unfolding piece_is taken_is place_after
loop-piece-preserved c =
    let e = rw (c.in-Ok.is, c.in-More.is) at c.component-taken.ensures in
    let m : MoreIs precision c.args.text.now c.loop-piece.place c.in-More.amount c.in-More.unit c.in-More.field-2 = e.0 in
    rw (e.1) (m.inside, more_here c.loop-piece.invariant.1 m c.put_line-at.ensures)
