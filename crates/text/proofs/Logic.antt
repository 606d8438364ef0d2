-- Two tests at once, and an option that is none and some. Assumes nothing.
use Rattle.std.proofs.Common.{◌≡◌, ℕ, Bool, true, ◌&&◌, arith}
use Rattle.std.specs.Prelude.{None, Some}
use Rattle.text.proofs.Bools.{and_left, and_right}

-- both parts of a test
pub both : (x y : Bool) → x && y ≡ true → (x ≡ true) × (y ≡ true)
both x y e = (and_left x y e, and_right x y e)

pub none_some {ℓ} : {X : Type ℓ} {A : Type 0} {a : A} → None ≡ Some a → X
none_some e = let x : ◌≡◌ {A = ℕ} 0 1 = cc in absurd (omega arith)
