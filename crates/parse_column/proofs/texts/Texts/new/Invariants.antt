-- `parse_column::texts::Texts::new` meets its contract. The loop's invariant: what is left to see decides. Assumes nothing.
use mathlib.Core.Path.{◌≡◌}
use lib.ListN.{length, drop}
use Rattle.whole_column.specs.Answer.{in_order}
use Rattle.parse_column.proofs.texts.Texts.new.Given as goal

abbrev pub invariant-loop-end : goal.invariant-loop-end
invariant-loop-end l = in_order (length l.bytes) 0 l.ends ≡ in_order (length l.bytes) l.last (drop l.end-index l.ends)
