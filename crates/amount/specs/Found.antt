-- What private functions of `amount` find at a place of a text: digits, a point. Assumes nothing.
use Rattle.std.specs.Prelude.{◌≡◌, Bool, true, List, ℕ, ◌+◌, ◌-◌, ◌*◌, ◌^◌, ◌≤◌, ◌<◌, min, ℤ, length, get_or, take, drop, Option, None, Some}
use Rattle.text.specs.Digits.{value, run}
use Rattle.number.specs.Widths.{signed}
use Rattle.amount.specs.Grammar.{whole_fits}
use Rattle.amount.specs.Scan.{negative, sign_len}
use Rattle.amount.specs.declared.parts.Number.{Number}

-- one more than the size of the least number of 64 signed bits
abbrev pub cap : ℕ
cap = 9_223_372_036_854_775_809

-- the digits that s begins with: their number, or the cap where it is more, and how many
pub record NumberIs (s : List ℕ) (r : Number) : Type 0 where
  pub value_is : r.value ≡ min (value 0 (take (run s) s)) cap
  pub len_is : r.len ≡ run s
  pub inside : r.len ≤ length s

-- those digits, at most n, as a fraction times 10^n
pub record PartIs (n : ℕ) (s : List ℕ) (r : Number) : Type 0 where
  pub value_is : r.value ≡ value 0 (take (run s) s) * 10 ^ (n - run s)
  pub small : r.value < 10 ^ n
  pub len_is : r.len ≡ run s
  pub most : run s ≤ n
  pub inside : r.len ≤ length s

-- or they are more
unfoldable pub fraction_is : ℕ → List ℕ → Option Number → Type 0
fraction_is n s None = n < run s
fraction_is n s (Some r) = PartIs n s r

-- a sign and digits whose number is a whole part stand from at on, and a point before the place from
pub record PointAt (s : List ℕ) (at from : ℕ) (neg : Bool) (integer : ℤ) : Type 0 where
  pub sign_is : neg ≡ negative (drop at s)
  pub place : from ≡ at + (sign_len neg + (run (drop (at + sign_len neg) s) + 1))
  pub inside : from ≤ length s
  pub point : get_or s (from - 1) 0 ≡ 0x2E
  pub integer_is : integer ≡ signed neg (value 0 (take (run (drop (at + sign_len neg) s)) (drop (at + sign_len neg) s)))
  pub fitting : whole_fits neg (value 0 (take (run (drop (at + sign_len neg) s)) (drop (at + sign_len neg) s))) ≡ true
