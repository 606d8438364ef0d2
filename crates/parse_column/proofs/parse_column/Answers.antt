-- `parse_column::parse_column` meets its contract: 13; or the first reading finds a refused text; or the second stores all values.
-- Assumes nothing.
use mathlib.Core.Path.{sym}
use Rattle.column.specs.Columns.{column as reading}
use Rattle.parse_column.proofs.Passes.{accepted_all, refused_one}
use Rattle.parse_column.proofs.parse_column.Goals as goal

pub returns-in-Some-first_refused : goal.returns-in-Some-first_refused
returns-in-Some-first_refused c = refused_one (reading c.args.column) c.args.texts.now c.args.ends.now c.args.cells.now (sym c.in-Some.ensures.in_order) c.if-ends-cells.true _ _
    (rw (c.in-Some.ensures.these.0, c.in-Some.ensures.these.1) at c.in-Some-first_refused.ensures)

pub returns : goal.returns
returns c = accepted_all (reading c.args.column) c.args.texts.now c.args.ends.now c.args.cells.now (sym c.in-Some.ensures.in_order) c.if-ends-cells.true c.store.new.cells
    (rw (c.in-Some.ensures.these.0, c.in-Some.ensures.these.1) at c.in_default-first_refused.ensures)
    (rw (c.in-Some.ensures.these.0, c.in-Some.ensures.these.1) at c.store.ensures)
