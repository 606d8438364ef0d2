-- `parse_column::texts::Texts::store` meets its contract. The loop's invariant: what the texts from here on store, all store. Assumes nothing.
use mathlib.Core.Path.{◌≡◌}
use mathlib.Core.Bool.{true}
use Prim.Native.Nat.{◌≤◌}
use lib.ListN.{length, drop}
use Rattle.column.specs.Columns.{column as reading}
use Rattle.whole_column.specs.Answer.{in_order, cut}
use Rattle.parse_column.specs.Helpers.{stored_from}
use Rattle.parse_column.proofs.texts.Texts.store.Given as goal

abbrev pub invariant-loop-i : goal.invariant-loop-i
invariant-loop-i l = (l.from ≤ length l.self.bytes.now) × (in_order (length l.self.bytes.now) l.from (drop l.i l.self.ends.now) ≡ true)
    × (stored_from (reading l.column) 0 (cut l.self.bytes.now 0 l.self.ends.now) l.initial.cells ≡ stored_from (reading l.column) l.i (cut l.self.bytes.now l.from (drop l.i l.self.ends.now)) l.cells)
