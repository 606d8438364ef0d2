-- The amounts of interval texts, as a relation between the bytes of an amount and its value: document 01, "Interval grammar". No plus.
-- The limit n is the most digits behind a point. Scan.antt computes both, and the theorem `Rattle.amount.proofs.AmountLaws.amount_agrees`
-- says that they are these. Assumes nothing.
use Rattle.std.specs.Prelude.{◌≡◌, Bool, true, false, List, [], ◌∷◌, ◌++◌, ℕ, ◌-◌, ◌*◌, ◌^◌, ◌≤◌, ℤ, pos, length}
use Rattle.text.specs.Digits.{value}
use Rattle.number.specs.Decimal.{Digits}
use Rattle.number.specs.Widths.{in_signed, signed}

-- document 01's limit, the Rust's INTERVAL_PRECISION
abbrev pub precision : ℕ
precision = 15

-- "optional minus", and whether it stands there
pub data Sign : List ℕ → Bool → Type 0 where
  no_sign : Sign [] false
  minus : Sign (0x2D ∷ []) true

-- v with a sign, true for minus, is a number of 64 signed bits
unfoldable pub whole_fits : Bool → ℕ → Bool
whole_fits neg v = in_signed 63 (signed neg v)

-- "digits whose value with the sign fits 64 signed bits"
pub record Whole (neg : Bool) (d : List ℕ) : Type 0 where
  pub written : Digits d
  pub fitting : whole_fits neg (value 0 d) ≡ true

-- "1 to n digits" behind a point
pub record Fraction (n : ℕ) (f : List ℕ) : Type 0 where
  pub written : Digits f
  pub most : length f ≤ n

-- what an amount says: its whole part, and its fraction times 10^n; "whole part and fraction both carry the sign"
pub record Value : Type 0 where
  pub integer : ℤ
  pub frac : ℤ

-- one of them
abbrev pub valued : ℤ → ℤ → Value
valued i f = record { integer = i; frac = f }

-- k digits behind a point as a fraction times 10^n: their number times 10^(n - k)
unfoldable pub scaled : ℕ → List ℕ → ℕ
scaled n f = value 0 f * 10 ^ (n - length f)

-- an amount and its value: "optional minus, then digits .., optionally a point and 1 to n digits; or optional minus, point, 1 to n digits"
pub data Amount (n : ℕ) : List ℕ → Value → Type 0 where
  -- digits alone: no fraction
  whole : {s d : List ℕ} {neg : Bool} → Sign s neg → Whole neg d → Amount n (s ++ d) (valued (signed neg (value 0 d)) (pos 0))
  -- digits, a point and digits: "a minus covers the fraction even over a zero .. whole part"
  decimal : {s d f : List ℕ} {neg : Bool} → Sign s neg → Whole neg d → Fraction n f
      → Amount n (s ++ (d ++ (0x2E ∷ f))) (valued (signed neg (value 0 d)) (signed neg (scaled n f)))
  -- a point and digits: ".. or absent whole part"
  fraction : {s f : List ℕ} {neg : Bool} → Sign s neg → Fraction n f → Amount n (s ++ (0x2E ∷ f)) (valued (pos 0) (signed neg (scaled n f)))
