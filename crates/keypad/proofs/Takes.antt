-- A unit taken out of a list of units: which, and what is left. Assumes nothing.
use mathlib.Core.Path.{◌≡◌, refl, ap}
use mathlib.Core.List.{List, [], ◌∷◌}
use Rattle.std.specs.Prelude.{remove}
use Prim.Native.Nat.{ℕ, zero, suc, ◌<◌}
use native.Mathlib.Omega.{arith}
use lib.ListN.{length, get_or as slice_index_or}
use Rattle.unit.specs.Units.{rank, units}
use Rattle.unit.specs.declared.IntervalUnit.{IntervalUnit}
use Rattle.unit.specs.declared.IntervalUnit.TheVariants.{Century, Decade, Year, Month, Week, Day, Hour, Minute, Second, Millisecond, Microsecond, Nanosecond}

-- the unit at place i of a list, and the others
pub data Takes : List IntervalUnit → ℕ → IntervalUnit → List IntervalUnit → Type 0 where
  here : {u : IntervalUnit} {l : List IntervalUnit} → Takes (u ∷ l) zero u l
  further : {u v : IntervalUnit} {l r : List IntervalUnit} {i : ℕ} → Takes l i u r → Takes (v ∷ l) (suc i) u (v ∷ r)

-- at each place there is one
pub takes : (l : List IntervalUnit) (i : ℕ) → i < length l → Takes l i (slice_index_or l i Century) (remove l i)
takes [] i h = absurd (omega arith)
takes (v ∷ l) zero h = here
takes (v ∷ l) (suc i) h = further (takes l i (omega arith))

-- and only that
pub taken : {l r : List IntervalUnit} {i : ℕ} {u : IntervalUnit} → Takes l i u r → (slice_index_or l i Century ≡ u) × (remove l i ≡ r)
taken here = (refl, refl)
taken (further {v = v} t) = let e = taken t in (e.0, ap (λ (r : List IntervalUnit). v ∷ r) e.1)

-- the others are one less
pub one_less : {l r : List IntervalUnit} {i : ℕ} {u : IntervalUnit} → Takes l i u r → (length l ≡ suc (length r)) × (i < length l)
one_less here = (refl, omega arith)
one_less (further t) = let e = one_less t in (omega (arith, e.0), omega (arith, e.1))

-- ---- a unit of a list

pub data In (u : IntervalUnit) : List IntervalUnit → Type 0 where
  first : {l : List IntervalUnit} → In u (u ∷ l)
  behind : {v : IntervalUnit} {l : List IntervalUnit} → In u l → In u (v ∷ l)

-- it can be taken
pub data Taken (u : IntervalUnit) (l : List IntervalUnit) : Type 0 where
  of : (i : ℕ) (r : List IntervalUnit) → Takes l i u r → Taken u l

pub can_take : {u : IntervalUnit} {l : List IntervalUnit} → In u l → Taken u l
can_take first = of 0 _ here
can_take (behind {v} p) = one_further v (can_take p)
  where
    one_further : {u : IntervalUnit} {l : List IntervalUnit} (v : IntervalUnit) → Taken u l → Taken u (v ∷ l)
    one_further v (of i r t) = of (suc i) (v ∷ r) (further t)

-- and any other is still there then
pub still : {u v : IntervalUnit} {l r : List IntervalUnit} {i : ℕ} → Takes l i u r → In v l → (u ≡ v → ⊥) → In v r
still here first n = absurd (n refl)
still here (behind p) n = p
still (further t) first n = first
still (further t) (behind p) n = behind (still t p n)

-- all units are among the units
pub all_there : (u : IntervalUnit) → In u units
all_there Century = first
all_there Decade = behind first
all_there Year = behind (behind first)
all_there Month = behind (behind (behind first))
all_there Week = behind (behind (behind (behind first)))
all_there Day = behind (behind (behind (behind (behind first))))
all_there Hour = behind (behind (behind (behind (behind (behind first)))))
all_there Minute = behind (behind (behind (behind (behind (behind (behind first))))))
all_there Second = behind (behind (behind (behind (behind (behind (behind (behind first)))))))
all_there Millisecond = behind (behind (behind (behind (behind (behind (behind (behind (behind first))))))))
all_there Microsecond = behind (behind (behind (behind (behind (behind (behind (behind (behind (behind first)))))))))
all_there Nanosecond = behind (behind (behind (behind (behind (behind (behind (behind (behind (behind (behind first))))))))))

-- ---- units in order

-- all units of the list come after rank k
pub data Above (k : ℕ) : List IntervalUnit → Type 0 where
  no_unit : Above k []
  above : {v : IntervalUnit} {l : List IntervalUnit} → k < rank v → Above k l → Above k (v ∷ l)

-- each comes after those in front of it
pub data Rising : List IntervalUnit → Type 0 where
  nothing : Rising []
  rising : {u : IntervalUnit} {l : List IntervalUnit} → Above (rank u) l → Rising l → Rising (u ∷ l)

above_taken : {k i : ℕ} {u : IntervalUnit} {l r : List IntervalUnit} → Takes l i u r → Above k l → (k < rank u) × Above k r
above_taken here (above h a) = (h, a)
above_taken (further t) (above h a) = let e = above_taken t a in (e.0, above h e.1)

-- what is left is in order
pub rising_still : {i : ℕ} {u : IntervalUnit} {l r : List IntervalUnit} → Takes l i u r → Rising l → Rising r
rising_still here (rising a q) = q
rising_still (further t) (rising a q) = rising (above_taken t a).1 (rising_still t q)

-- a unit at a later place comes later
pub later : {i j : ℕ} {u v : IntervalUnit} {l r s : List IntervalUnit} → Takes l i u r → Takes l j v s → i < j → Rising l → rank u < rank v
later here here h q = absurd (omega arith)
later here (further t) h (rising a q) = (above_taken t a).0
later (further t) here h q = absurd (omega arith)
later (further t) (further w) h (rising a q) = later t w (omega arith) q

-- the units are in order, since their ranks run on
data RunsOn : ℕ → List IntervalUnit → Type 0 where
  to_end : {k : ℕ} → RunsOn k []
  runs_on : {k : ℕ} {u : IntervalUnit} {l : List IntervalUnit} → rank u ≡ k → RunsOn (suc k) l → RunsOn k (u ∷ l)

all_above : {k j : ℕ} {l : List IntervalUnit} → k < j → RunsOn j l → Above k l
all_above h to_end = no_unit
all_above h (runs_on e q) = above (omega (arith, e)) (all_above (omega arith) q)

in_order : {k : ℕ} {l : List IntervalUnit} → RunsOn k l → Rising l
in_order to_end = nothing
in_order (runs_on e q) = rising (all_above (omega (arith, e)) q) (in_order q)

pub units_rising : Rising units
unfolding rank
units_rising =
    in_order {k = 0} (runs_on refl (runs_on refl (runs_on refl (runs_on refl (runs_on refl (runs_on refl (runs_on refl (runs_on refl (runs_on refl (runs_on refl (runs_on refl (runs_on refl to_end))))))))))))

-- ---- a unit that a list lacks

pub data Lacks (u : IntervalUnit) : List IntervalUnit → Type 0 where
  lacks_all : Lacks u []
  lacks_this : {v : IntervalUnit} {l : List IntervalUnit} → (u ≡ v → ⊥) → Lacks u l → Lacks u (v ∷ l)

lacks_above : {u : IntervalUnit} {l : List IntervalUnit} → Above (rank u) l → Lacks u l
lacks_above no_unit = lacks_all
lacks_above {u} (above {v} h a) = lacks_this (λ e. let k : rank u ≡ rank v = ap rank e in omega (arith, h, k)) (lacks_above a)

-- the unit taken is none of the others
pub lacks : {i : ℕ} {u : IntervalUnit} {l r : List IntervalUnit} → Takes l i u r → Rising l → Lacks u r
lacks here (rising a q) = lacks_above a
lacks {u = u} (further {v = v} t) (rising a q) = lacks_this (λ e. let k : rank u ≡ rank v = ap rank e in omega (arith, (above_taken t a).0, k)) (lacks t q)

pub lacks_still : {i : ℕ} {u v : IntervalUnit} {l r : List IntervalUnit} → Takes l i v r → Lacks u l → (u ≡ v → ⊥) × Lacks u r
lacks_still here (lacks_this n q) = (n, q)
lacks_still (further t) (lacks_this n q) = let e = lacks_still t q in (e.0, lacks_this n e.1)
