-- What is true of each amount that the code holds. Assumes nothing.
use Rattle.std.specs.Prelude.{◌≡◌, Bool, true, ◌^◌, ◌<◌, ℤ, pos, negsuc, nat_abs, eqb}
use Rattle.amount.specs.Grammar.{precision}

-- of two numbers none has a sign opposite to the other's (`Rattle.amount.proofs.AmountLaws.one_sign_lem`: they are `SameSign`)
abbrev pub one_sign : ℤ → ℤ → Bool
one_sign (pos i) (pos f) = true
one_sign (pos i) (negsuc f) = eqb i 0
one_sign (negsuc i) (pos f) = eqb f 0
one_sign (negsuc i) (negsuc f) = true

-- an amount as a component has it: no opposite signs, and a fraction, which counts ten to the limit, below 1
pub record Proper (integer frac : ℤ) : Type 0 where
  pub signs : one_sign integer frac ≡ true
  pub small : nat_abs frac < 10 ^ precision
