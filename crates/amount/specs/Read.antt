-- What the answer of `amount_at` says: the amount at a place of a text, the value that it holds, and where it ends. The limit n is the most
-- digits behind a point. Assumes nothing.
use Rattle.std.specs.Prelude.{◌≡◌, Bool, List, ℕ, ◌+◌, ◌-◌, ◌≤◌, ◌<◌, ℤ, length, take, drop, Result, Ok, Err}
use Rattle.number.specs.Widths.{signed}
use Rattle.amount.specs.Grammar.{Value, valued, Amount}
use Rattle.amount.specs.Scan.{amount_len}
use Rattle.amount.specs.declared.held.IntervalAmount.{IntervalAmount}

-- the value of an amount as the code holds it
abbrev pub value_of : IntervalAmount → Value
value_of a = valued a.integer a.frac

-- two numbers, none of them with a sign opposite to the other's
pub record SameSign (i f : ℤ) : Type 0 where
  pub neg : Bool
  pub whole : ℕ
  pub part : ℕ
  pub whole_is : i ≡ signed neg whole
  pub part_is : f ≡ signed neg part

-- an amount of s from at to end, and its value
pub record ReadIs (n : ℕ) (s : List ℕ) (at : ℕ) (v : Value) (end : ℕ) : Type 0 where
  pub further : at < end
  pub inside : end ≤ length s
  pub end_is : end ≡ at + amount_len n (drop at s)
  pub says : Amount n (take (end - at) (drop at s)) v

-- what stands at a place: an amount; or none, and then that place is told
unfoldable pub amount_is : ℕ → List ℕ → ℕ → Result (IntervalAmount × ℕ) ℕ → Type 0
amount_is n s at (Ok r) = ReadIs n s at (value_of r.0) r.1
amount_is n s at (Err p) = (amount_len n (drop at s) ≡ 0) × (p ≡ at)
