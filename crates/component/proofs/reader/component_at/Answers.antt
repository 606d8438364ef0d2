-- `component::reader::component_at` meets its contract: the reader reads at its place, and stands behind what it read. Assumes nothing.
use mathlib.Core.Path.{◌∙◌}
use Rattle.component.specs.Read.{taken_is}
use Rattle.component.proofs.reader.component_at.Goals as goal

pub returns : goal.returns
unfolding taken_is
returns c =
    let e = c.new-reader.ensures in
    (rw (e.0, e.1) at c.next-piece.ensures, c.at-at.ensures ∙ rw (e.0, e.1) at c.after.ensures.1)
