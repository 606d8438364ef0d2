-- The division of an interval text, computed from the left: an amount, then its unit, then the white space before the next component.
-- The limit n is the most digits behind a point. `Rattle.component.proofs.Agreement.agrees` says that it computes exactly the divisions
-- of Grammar.antt. Assumes nothing.
use Rattle.std.specs.Prelude.{Bool, true, false, not, List, [], ◌∷◌, ℕ, zero, suc, ◌+◌, eqb, length, take, drop, Option, None, Some}
use Rattle.white.specs.WhiteSpace.{white_len}
use Rattle.component.specs.Grammar.{Component, component}
use Rattle.unit.specs.Units.{is_unit, word_len}
use Rattle.amount.specs.Scan.{amount_len}

-- what a text begins with: no component, a component that ends it, or a component and white space of so many bytes together
pub data Step : Type 0 where
  bad : Step
  stop : Component → Step
  go : Component → ℕ → Step

-- a component of k bytes, its unit a unit or not, before t
unfoldable pub end_step : Bool → Component → ℕ → List ℕ → Step
end_step false c k t = bad
end_step true c k [] = stop c
end_step true c k (b ∷ t) = go c (k + white_len (b ∷ t))

-- an amount a, spaced or not, of k bytes with its white space, before the unit
unfoldable pub unit_step : List ℕ → Bool → ℕ → List ℕ → Step
unit_step a s k t = end_step (is_unit (take (word_len t) t)) (component a s (Some (take (word_len t) t))) (k + word_len t) (drop (word_len t) t)

-- an amount a of k bytes, before t
unfoldable pub rest_step : List ℕ → ℕ → List ℕ → Step
rest_step a k [] = stop (component a false None)
rest_step a k (b ∷ t) = unit_step a (not (eqb (white_len (b ∷ t)) 0)) (k + white_len (b ∷ t)) (drop (white_len (b ∷ t)) (b ∷ t))

-- the text t begins with an amount of so many bytes, or with none
unfoldable pub amount_step : ℕ → List ℕ → Step
amount_step zero t = bad
amount_step (suc k) t = rest_step (take (suc k) t) (suc k) (drop (suc k) t)

-- what a text begins with
unfoldable pub step : ℕ → List ℕ → Step
step n t = amount_step (amount_len n t) t

-- a component before a division
unfoldable pub before : Component → Option (List Component) → Option (List Component)
before c None = None
before c (Some d) = Some (c ∷ d)

-- a step, then what f makes of the text that many bytes on
unfoldable pub then : Step → (ℕ → Option (List Component)) → Option (List Component)
then bad f = None
then (stop c) f = Some (c ∷ [])
then (go c k) f = before c (f k)

-- a division of at most j components
unfoldable pub divide_by : ℕ → ℕ → List ℕ → Option (List Component)
divide_by n zero t = None
divide_by n (suc j) t = then (step n t) (λ k. divide_by n j (drop k t))

-- the division of a text, if it has one: no more components than bytes
unfoldable pub divide : ℕ → List ℕ → Option (List Component)
divide n t = divide_by n (suc (length t)) t
