-- The units by their numbers: a number names the unit of that rank and no other (`undo`), and no number past the end of the list names
-- one. Assumes nothing.
use mathlib.Core.Path.{◌≡◌, refl, sym, ap, ◌∙◌}
use mathlib.Core.Bool.{true}
use mathlib.Core.Logic.{◌↔◌}
use mathlib.Core.List.{List, [], ◌∷◌}
use Rattle.std.specs.Prelude.{None, Some}
use Prim.Native.Nat.{ℕ, zero, suc, ◌+◌, ◌≤◌}
use native.Mathlib.Omega.{arith}
use lib.Dec.{eqb}
use lib.ListN.{length}
use borrow.Author.Tests.{eqb-true}
use Rattle.unit.specs.Units.{rank, units, place, unit_numbered}
use Rattle.unit.specs.declared.IntervalUnit.{IntervalUnit}
use Rattle.unit.specs.declared.IntervalUnit.TheVariants.{Century, Decade, Year, Month, Week, Day, Hour, Minute, Second, Millisecond, Microsecond, Nanosecond}

pub past : (l : List IntervalUnit) (n : ℕ) → length l ≤ n → None ≡ place l n
unfolding place
past [] n h = refl
past (u ∷ l) zero h = absurd (omega (arith, h))
past (u ∷ l) (suc n) h = past l n (omega (arith, h))

at_rank : (u : IntervalUnit) → unit_numbered (rank u) ≡ Some u
unfolding rank place
at_rank Century = refl
at_rank Decade = refl
at_rank Year = refl
at_rank Month = refl
at_rank Week = refl
at_rank Day = refl
at_rank Hour = refl
at_rank Minute = refl
at_rank Second = refl
at_rank Millisecond = refl
at_rank Microsecond = refl
at_rank Nanosecond = refl

some_is : {u v : IntervalUnit} → Some u ≡ Some v → u ≡ v
some_is e = cc

-- the ranks of a list run on from k
unfoldable Ranked : ℕ → List IntervalUnit → Type 0
Ranked k [] = Unit
Ranked k (u ∷ l) = (rank u ≡ k) × Ranked (suc k) l

units_ranked : Ranked 0 units
unfolding Ranked rank
units_ranked = (refl, (refl, (refl, (refl, (refl, (refl, (refl, (refl, (refl, (refl, (refl, (refl, tt))))))))))))

rank_at : (k : ℕ) (l : List IntervalUnit) → Ranked k l → (n : ℕ) {u : IntervalUnit} → place l n ≡ Some u → rank u ≡ k + n
unfolding Ranked place
rank_at k [] R n {u} e = cc
rank_at k (v ∷ l) R zero e = rw (← some_is e) (omega (arith, R.0))
rank_at k (v ∷ l) R (suc n) e = omega (arith, rank_at (suc k) l R.1 n e)

-- a unit's number and the unit that a number names undo each other
pub undo : (n : ℕ) (u : IntervalUnit) → (unit_numbered n ≡ Some u) ↔ (rank u ≡ n)
undo n u = (λ e. omega (arith, rank_at 0 units units_ranked n e), λ e. rw (← e) (at_rank u))

pub same_unit : (u v : IntervalUnit) → eqb (rank u) (rank v) ≡ true → u ≡ v
same_unit u v e = some_is (sym (at_rank u) ∙ ap unit_numbered (eqb-true (rank u) (rank v) e) ∙ at_rank v)
