-- Interval texts, as a relation between a text and its division: document 01, "Interval grammar". The page is PostgreSQL 15, section
-- 8.5.4, "Interval Input": [@] quantity unit [quantity unit...] [direction]. Document 01 takes less of it: no @, no direction (ago),
-- no plus, no hh:mm:ss without units, none of the ISO 8601 forms, and exactly one white space character where PostgreSQL takes any
-- number. The limit n is the most digits behind a point. Division.antt computes the division, and the theorem
-- `Rattle.component.proofs.Agreement.agrees` says that it is this one. Assumes nothing.
use Rattle.std.specs.Prelude.{◌≡◌, Bool, true, false, List, [], ◌∷◌, ◌++◌, ℕ, Option, None, Some}
use Rattle.white.specs.WhiteSpace.{White}
use Rattle.unit.specs.Units.{is_unit}
use Rattle.amount.specs.Grammar.{Value, Amount}

-- "a component holds its amount, whether whitespace follows the amount, and its unit word or none"
pub record Component : Type 0 where
  pub amount : List ℕ
  pub spaced : Bool
  pub unit : Option (List ℕ)

-- one of them
abbrev pub component : List ℕ → Bool → Option (List ℕ) → Component
component a s u = record { amount = a; spaced = s; unit = u }

-- a text that is one component with its unit: "amount and unit glued, or amount, one whitespace character, unit"
pub data Complete (n : ℕ) : List ℕ → Component → Type 0 where
  glued : {a u : List ℕ} {v : Value} → Amount n a v → is_unit u ≡ true → Complete n (a ++ u) (component a false (Some u))
  apart : {a w u : List ℕ} {v : Value} → Amount n a v → White w → is_unit u ≡ true → Complete n (a ++ (w ++ u)) (component a true (Some u))

-- a text and its division: "one or more components, parted by one whitespace character", of which "only the last may lack its unit, and
-- then no whitespace follows its amount"
pub data Divides (n : ℕ) : List ℕ → List Component → Type 0 where
  -- an amount alone
  bare : {a : List ℕ} {v : Value} → Amount n a v → Divides n a (component a false None ∷ [])
  -- a component with its unit, and nothing behind it
  last : {t : List ℕ} {c : Component} → Complete n t c → Divides n t (c ∷ [])
  -- a component with its unit, white space, and what is divided further
  more : {t w r : List ℕ} {c : Component} {d : List Component} → Complete n t c → White w → Divides n r d → Divides n (t ++ (w ++ r)) (c ∷ d)
