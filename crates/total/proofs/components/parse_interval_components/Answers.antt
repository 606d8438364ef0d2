use mathlib.Core.Path.{◌≡◌, refl, ◌∙◌}
use mathlib.Core.Bool.{true, false}
use native.Mathlib.Omega.{arith}
use Rattle.std.specs.Prelude.{Err}
use lib.ListN.{get_or, length-set}
use Rattle.unit.proofs.WordLaws.{or_else_lem}
use Rattle.amount.specs.Grammar.{precision}
use Rattle.component.specs.Read.{LastIs, MoreIs, piece_is, place_after, taken_is}
use Rattle.total.specs.Helpers.{totals_of, unfit_of, came}
use Rattle.total.proofs.Folding.{came_or, rank_below, starts, starts_place, bad_answer, bad_place, last_answer, last_utf8, last_place, more_goes, more_place}
use Rattle.total.proofs.components.parse_interval_components.Goals as goal

pub loop-piece-init : goal.loop-piece-init
unfolding came
loop-piece-init c = (omega arith, refl, starts c.args.value.now c.args.default_unit, starts_place c.args.value.now c.args.default_unit)

pub returns-in-Err : goal.returns-in-Err
unfolding piece_is taken_is place_after
returns-in-Err c = let i = c.loop-piece.invariant in
    let k : c.component-taken.result.piece ≡ Err c.in-Err.place = c.in-Err.is in
    let e = rw k at c.component-taken.ensures in (
      bad_answer c.args.value.now c.args.default_unit c.loop-piece.at c.loop-piece.seen (came c.loop-piece.repeated) (totals_of c.loop-piece.total) i.2 e.0.0 c.bad_piece.ensures.0,
      bad_place c.args.value.now c.args.default_unit c.loop-piece.at c.loop-piece.seen c.loop-piece.repeated (totals_of c.loop-piece.total) (unfit_of c.loop-piece.total) i.3 e.0.0 e.0.1 c.bad_piece.ensures.1,
    )

pub bounds-seen-k : goal.bounds-seen-k
bounds-seen-k c = omega (arith, c.mark-k.ensures, rank_below c.unwrap_or-unit.result)

pub returns-in-Last : goal.returns-in-Last
unfolding piece_is taken_is place_after
returns-in-Last c = let i = c.loop-piece.invariant in
    let a = c.in-Last.amount in
    let e = rw (c.in-Ok.is, c.in-Last.is) at c.component-taken.ensures in
    let L : LastIs precision c.args.value.now c.loop-piece.at a c.in-Last.word = e.0 in
    let r = c.loop-piece.repeated in
    let u = c.unwrap_or-unit.ensures ∙ or_else_lem c.args.default_unit c.in-Last.word in
    let o = c.first_again-again.ensures in
    let R = rw (o, came_or r (get_or c.loop-piece.seen c.mark-k.result false) c.loop-piece.at) at c.settled.ensures.0 in
    let A = last_answer c.args.value.now c.args.default_unit c.loop-piece.at c.loop-piece.seen (came r) (totals_of c.loop-piece.total) i.2 a c.unwrap_or-unit.result c.mark-k.ensures c.add_component.ensures.0 L u R in (
      A,
      last_place c.args.value.now c.args.default_unit c.loop-piece.at c.loop-piece.seen r (totals_of c.loop-piece.total) (unfit_of c.loop-piece.total) i.3 a c.unwrap_or-unit.result c.mark-k.ensures L u
          (last_utf8 c.args.value.now c.args.default_unit c.loop-piece.at c.loop-piece.seen (came r) (totals_of c.loop-piece.total) i.2 a c.unwrap_or-unit.result c.mark-k.ensures c.add_component.ensures.0 R A)
          o c.add_component.ensures.1 c.settled.ensures.1,
    )

pub bounds-seen-k-in-More : goal.bounds-seen-k-in-More
bounds-seen-k-in-More c = omega (arith, c.mark-k-in-More.ensures, rank_below c.in-More.unit)

pub bounds-seen-k-in-More-2 : goal.bounds-seen-k-in-More-2
bounds-seen-k-in-More-2 c = (omega (arith, c.mark-k-in-More.ensures, rank_below c.in-More.unit))

pub loop-piece-smaller : goal.loop-piece-smaller
unfolding piece_is taken_is place_after
loop-piece-smaller c = let e = rw (c.in-Ok.is, c.in-More.is) at c.component-taken.ensures in
    let M : MoreIs precision c.args.value.now c.loop-piece.at c.in-More.amount c.in-More.unit c.in-More.field-2 = e.0 in
    omega (arith, M.further, M.inside, e.1)

pub loop-piece-preserved : goal.loop-piece-preserved
unfolding piece_is taken_is place_after
loop-piece-preserved c = let t = c.add_component-total.ensures in
    let i = c.loop-piece.invariant in
    let a = c.in-More.amount in
    let v = c.in-More.unit in
    let e = rw (c.in-Ok.is, c.in-More.is) at c.component-taken.ensures in
    let M : MoreIs precision c.args.value.now c.loop-piece.at a v c.in-More.field-2 = e.0 in
    let r = c.loop-piece.repeated in
    let o = c.first_again-repeated.ensures in
    rw e.1 (
      M.inside,
      length-set c.loop-piece.seen c.mark-k-in-More.result true ∙ i.1,
      rw (o, came_or r (get_or c.loop-piece.seen c.mark-k-in-More.result false) c.loop-piece.at) (more_goes c.args.value.now c.args.default_unit c.loop-piece.at c.loop-piece.seen (came r) (totals_of c.loop-piece.total) i.2 a v c.mark-k-in-More.ensures t.0 i.1 M),
      more_place c.args.value.now c.args.default_unit c.loop-piece.at c.loop-piece.seen r (totals_of c.loop-piece.total) (unfit_of c.loop-piece.total) i.3 a v c.mark-k-in-More.ensures i.1 M o t.0 t.1,
    )
