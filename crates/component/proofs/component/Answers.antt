-- `component::component` meets its contract: nothing stands past the end, and a reader finds what stands before it. Assumes nothing.
use mathlib.Core.Path.{refl}
use native.Mathlib.Omega.{arith}
use Prim.Native.Nat.{◌≤◌}
use lib.ListN.{length, drop}
use Rattle.amount.proofs.AmountLaws.{past_text}
use Rattle.amount.specs.Grammar.{precision}
use Rattle.component.specs.Read.{piece_is, place_after, taken_is}
use Rattle.component.proofs.Steps.{past_end}
use Rattle.component.proofs.Faults.{no_amount_fault}
use Rattle.component.proofs.component.Goals as goal

pub returns-then-text-at : goal.returns-then-text-at
unfolding taken_is piece_is place_after
returns-then-text-at c = let h : length c.args.text.now ≤ c.args.at = omega (arith, c.if-text-at.true) in
    ((past_end precision c.args.text.now c.args.at h, omega (arith, no_amount_fault precision (drop c.args.at c.args.text.now) (past_text precision c.args.text.now c.args.at h))), refl)
