-- What the answer of `component` says: the component at a place of a text, and where a reader goes on from there. The limit n is the most
-- digits behind a point. Assumes nothing.
use Rattle.std.specs.Prelude.{◌≡◌, List, ℕ, ◌+◌, ◌-◌, ◌^◌, ◌≤◌, ◌<◌, nat_abs, length, drop, Option, Some, Result, Ok, Err}
use Rattle.unit.specs.Units.{or_else}
use Rattle.component.specs.Grammar.{Component}
use Rattle.component.specs.Division.{bad, stop, go, step}
use Rattle.component.specs.Spelled.{unit_for}
use Rattle.component.specs.Fault.{fault}
use Rattle.amount.specs.Grammar.{Amount}
use Rattle.amount.specs.Read.{value_of, SameSign}
use Rattle.amount.specs.declared.held.IntervalAmount.{IntervalAmount}
use Rattle.unit.specs.declared.IntervalUnit.{IntervalUnit}
use Rattle.component.specs.declared.Piece.{Piece}
use Rattle.component.specs.declared.Piece.TheVariants.{Last, More}
use Rattle.component.specs.declared.Taken.{Taken}

-- a component, its amount's value and its unit, where none stands for the default
pub record Holds (n : ℕ) (c : Component) (a : IntervalAmount) (w : Option IntervalUnit) : Type 0 where
  pub amount_is : Amount n c.amount (value_of a)
  pub same_sign : SameSign a.integer a.frac
  pub small : nat_abs a.frac < 10 ^ n
  pub unit_is : (u : IntervalUnit) → unit_for u c ≡ or_else u w

-- a component that ends the text
pub record LastIs (n : ℕ) (s : List ℕ) (at : ℕ) (a : IntervalAmount) (w : Option IntervalUnit) : Type 0 where
  pub this : Component
  pub stepped : step n (drop at s) ≡ stop this
  pub holds : Holds n this a w

-- a component before the place x
pub record MoreIs (n : ℕ) (s : List ℕ) (at : ℕ) (a : IntervalAmount) (u : IntervalUnit) (x : ℕ) : Type 0 where
  pub this : Component
  pub stepped : step n (drop at s) ≡ go this (x - at)
  pub further : at < x
  pub inside : x ≤ length s
  pub holds : Holds n this a (Some u)

-- what stands at a place: a last one; one more; or no component, and where it cannot be read
unfoldable pub piece_is : ℕ → List ℕ → ℕ → Result Piece ℕ → Type 0
piece_is n s at (Ok (Last a w)) = LastIs n s at a w
piece_is n s at (Ok (More a u x)) = MoreIs n s at a u x
piece_is n s at (Err p) = (step n (drop at s) ≡ bad) × (p ≡ at + fault n (drop at s))

-- where a reader goes on from a place: a last one ends the text, else behind the white space; it stays where there is no component
unfoldable pub place_after : List ℕ → ℕ → Result Piece ℕ → ℕ
place_after s at (Ok (Last a w)) = length s
place_after s at (Ok (More a u x)) = x
place_after s at (Err p) = at

-- what stands at a place, and where a reader goes on
unfoldable pub taken_is : ℕ → List ℕ → ℕ → Taken → Type 0
taken_is n s at r = piece_is n s at r.piece × (r.at ≡ place_after s at r.piece)
