-- `listing::lines::put_lines` meets its contract. The loop's invariant: the lines written, and those of what is left of the text, are those of
-- its division. The measure is what is left of the text. Assumes nothing.
use Prim.Native.Nat.{◌-◌, ◌≤◌}
use lib.ListN.{length}
use Rattle.listing.proofs.Ahead.{Goes}
use Rattle.listing.proofs.lines.put_lines.Given as goal

abbrev pub invariant-loop-piece : goal.invariant-loop-piece
invariant-loop-piece l = (l.place ≤ length l.text) × Goes l.default_unit l.text l.place l.initial.buffer l.buffer l.at

abbrev pub decreases-loop-piece : goal.decreases-loop-piece
decreases-loop-piece l = length l.text - l.place
