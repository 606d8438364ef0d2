-- `utf8::is_well_formed` meets its contract. The loop's invariant: what is left, in the state that is reached, is well-formed where the
-- whole is. Assumes nothing.
use mathlib.Core.Path.{◌≡◌}
use lib.ListN.{drop}
use Rattle.utf8.specs.Utf8.{well_formed, utf8}
use Rattle.utf8.proofs.is_well_formed.Given as goal

abbrev pub invariant-loop-b : goal.invariant-loop-b
invariant-loop-b l = well_formed l.follow.count l.follow.low l.follow.high (drop l.b-index l.s) ≡ utf8 l.s
