-- `component::split::unit_at` meets its contract, by the laws of what follows an amount. Assumes nothing.
use mathlib.Core.Path.{refl}
use Prim.Native.Nat.{◌+◌}
use Rattle.unit.specs.Read.{word_is}
use Rattle.component.specs.Read.{piece_is}
use Rattle.component.proofs.Pieces.{alone, no_unit_here, no_unit_place, unit_ends, unit_goes_on}
use Rattle.component.proofs.split.unit_at.Goals as goal

pub returns-then-text-end : goal.returns-then-text-end
unfolding piece_is
returns-then-text-end c = alone c.args.text.now c.args.at c.args.amount c.args.end c.requires c.if-text-end.true

pub returns-in-Ok-Last : goal.returns-in-Ok-Last
unfolding piece_is word_is
returns-in-Ok-Last c = let u = rw c.in-Ok-Last.field-0-is at c.in-Ok-Last.ensures in
    unit_ends c.args.text.now c.args.at c.args.amount c.args.end c.requires c.if-text-end.false c.white_len.result (c.args.end + c.white_len.result) c.white_len.ensures.0 refl u.0 u.1

pub returns-in-Ok-More : goal.returns-in-Ok-More
unfolding piece_is word_is
returns-in-Ok-More c = unit_goes_on c.args.text.now c.args.at c.args.amount c.args.end c.requires c.if-text-end.false c.white_len.result (c.args.end + c.white_len.result) c.white_len.ensures.0 refl (rw c.in-Ok-More.field-0-is at c.in-Ok-More.ensures)

pub returns-in-Err : goal.returns-in-Err
unfolding piece_is word_is
returns-in-Err c = let n = c.in-Err.ensures in
    rw (c.bad_unit.ensures, n.1) (no_unit_here c.args.text.now c.args.at c.args.amount c.args.end c.requires c.if-text-end.false c.white_len.result (c.args.end + c.white_len.result) c.white_len.ensures.0 refl n.0, no_unit_place c.args.text.now c.args.at c.args.amount c.args.end c.requires c.if-text-end.false c.white_len.result (c.args.end + c.white_len.result) c.white_len.ensures.0 refl)
