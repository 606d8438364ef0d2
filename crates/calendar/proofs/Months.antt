-- The days of a year before each month: by the one formula for both kinds of year, and month by month. Assumes nothing.
use mathlib.Core.Path.{◌≡◌}
use mathlib.Core.Bool.{Bool, true, false, cond}
use Prim.Native.Nat.{ℕ, zero, suc, ◌+◌, ◌-◌, ◌*◌, ◌/◌, ◌≤◌, ◌<◌}
use native.Mathlib.Omega.{arith}
use native.Mathlib.Numerals.{add-one}
use lib.Dec.{T, eqb, eqb→eq, leb, leb→le}
use lib.ListN.{get_or-eq_default}
use Rattle.text.proofs.Computed.{all_below, below}
use Rattle.calendar.specs.Calendar.{month_days, before}

-- what the formula counts too many: 2 days for February, or 1 in a leap year
abbrev pub over : Bool → ℕ → ℕ
over l m = cond (leb m 2) 0 (cond l 1 2)

computed : (l : Bool) → T (all_below (λ (m : ℕ). eqb ((367 * m - 362) / 12) (before l m + over l m)) 14)
unfolding before
computed true = tt
computed false = tt

pub formula : (l : Bool) (m : ℕ) → m < 14 → (367 * m - 362) / 12 ≡ before l m + over l m
formula l m h =
    eqb→eq ((367 * m - 362) / 12) (before l m + over l m)
    (below (λ (i : ℕ). eqb ((367 * i - 362) / 12) (before l i + over l i)) 14 (computed l) m h)

pub next_before : (l : Bool) (m : ℕ) → before l (m + 1) ≡ before l m + month_days l m
unfolding before
next_before l m = rw add-one

-- ---- the months that a year has, and those that no year has

pub has_days : (l : Bool) (m : ℕ) → 1 ≤ m → m ≤ 12 → 1 ≤ month_days l m
has_days l zero h k = absurd (omega arith)
has_days l (suc m) h k =
    leb→le 1 (month_days l (suc m)) (below (λ (i : ℕ). leb 1 (month_days l (suc i))) 12 (each l) m k)
  where
    each : (l : Bool) → T (all_below (λ (i : ℕ). leb 1 (month_days l (suc i))) 12)
    each true = tt
    each false = tt

pub past_12 : (l : Bool) (m : ℕ) → 12 < m → month_days l m ≡ 0
past_12 l m h = rw get_or-eq_default
