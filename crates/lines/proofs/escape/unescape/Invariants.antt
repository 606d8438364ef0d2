-- `lines::escape::unescape` meets its contract. The loop's invariant: what is held and what is left to put make the whole. Assumes nothing.
use Rattle.std.proofs.Common.{◌≡◌, ◌++◌, ◌≤◌, length, take}
use Rattle.lines.specs.Escape.{unescaped}
use Rattle.lines.proofs.escape.unescape.Given as goal

abbrev pub invariant-loop-byte : goal.invariant-loop-byte
invariant-loop-byte g l = (length l.out ≤ g.row.N) × (take g.row.N (l.out ++ unescaped l.rest) ≡ take g.row.N (unescaped l.s))

abbrev pub decreases-loop-byte : goal.decreases-loop-byte
decreases-loop-byte g l = length l.rest
