-- `white::white_at` meets its contract. Assumes nothing.
use mathlib.Core.Path.{◌≡◌, sym, ◌∙◌}
use Prim.Native.Nat.{◌≤◌}
use native.Mathlib.Omega.{arith}
use lib.ListN.{length, drop, length-drop, drop_of_length-le}
use Rattle.white.specs.WhiteSpace.{white_len}
use Rattle.white.proofs.WhiteAgrees.{at_place, at_end, no_longer}
use Rattle.white.proofs.white_at.Goals as goal

pub returns-in_default : goal.returns-in_default
returns-in_default c = let h : length c.args.s.now ≤ c.args.at = omega (arith, c.in_default.ensures.lookup) in (rw (drop_of_length-le c.args.s.now h) (sym at_end), omega arith)

pub returns : goal.returns
returns c = let e : c.white_of.result ≡ white_len (drop c.args.at c.args.s.now) = c.white_of.ensures ∙ rw (c.byte_at-2.ensures, c.byte_at.ensures, c.in-Some.ensures.lookup.3.1 0) (sym (at_place c.args.s.now c.args.at)) in
    (e, omega (arith, e, no_longer (drop c.args.at c.args.s.now), length-drop c.args.at c.args.s.now))
