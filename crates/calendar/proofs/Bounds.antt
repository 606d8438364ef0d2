-- How far from 1970-01-01 a day of a year lies. Assumes nothing.
use mathlib.Core.Path.{◌≡◌}
use mathlib.Core.Bool.{Bool, true, false}
use Rattle.std.specs.Prelude.{None, Some}
use Prim.Native.Nat.{ℕ, zero, suc, ◌+◌, ◌-◌, ◌*◌, ◌≤◌, ◌<◌}
use native.Mathlib.Omega.{arith}
use lib.Dec.{leb, ltb, leb→le}
use borrow.Author.Tests.{ltb-true, ltb-false}
use lib.IntN.{ℤ, pos, ◌+ℤ◌}
use Rattle.number.proofs.Zed.{P, N, add_pn, P-neg, N-neg}
use Rattle.text.proofs.Bools.{by_test, within_is}
use Rattle.text.proofs.Computed.{below}
use Rattle.calendar.specs.Calendar.{leap, days_of, span, year_start, month_days, before, is_date, day_number, civil}
use Rattle.calendar.proofs.Years.{by_1970, later, sooner}
use Rattle.calendar.proofs.Months.{past_12}

-- z lies between -b and b
abbrev pub Within : ℕ → ℤ → Type 0
Within b z = (P z ≤ N z + b) × (N z ≤ P z + b)

-- years have at most 366 days
year_most : (l : Bool) → days_of l ≤ 366
year_most true = omega arith
year_most false = omega arith

span_most : (y : ℤ) (k : ℕ) → span y k ≤ 366 * k
unfolding span
span_most y zero = omega arith
span_most y (suc k) = omega (arith, span_most y k, year_most (leap (y +ℤ pos k)))

start_most : (y : ℤ) → Within (366 * (P y + N y + 1970)) (year_start y)
start_most y =
    by_1970 y
    (λ k e. rw (later y k e) (omega (arith, span_most (pos 1970) k)))
    (λ k e. rw (sooner y (suc k) e) (omega (arith, span_most y (suc k), P-neg (pos (span y (suc k))), N-neg (pos (span y (suc k))))))

-- and months of a year start within it
before_most : (l : Bool) (m : ℕ) → m < 13 → before l m + month_days l m ≤ 366
unfolding before
before_most true m h = leb→le (before true m + month_days true m) 366 (below (λ (i : ℕ). leb (before true i + month_days true i) 366) 13 tt m h)
before_most false m h = leb→le (before false m + month_days false m) 366 (below (λ (i : ℕ). leb (before false i + month_days false i) 366) 13 tt m h)

-- a day of year y
pub civil_most : (y : ℤ) (m d : ℕ) (z : ℤ) → civil y m d ≡ Some z → Within (366 * (P y + N y + 1971)) z
civil_most y m d z e =
    by_test (is_date y m d)
    (λ t.
    let w = within_is 1 d (month_days (leap y) m) t in
    let q : Some (day_number y m d) ≡ Some z = rw t at e in
    let v : day_number y m d ≡ z = cc in
    rw (← v) (omega (arith, add_pn (year_start y) (pos (before (leap y) m + (d - 1))), start_most y, before_most (leap y) m (month y m d w.0 w.1))))
    (λ t. let q : None ≡ Some z = rw t at e in let x : ◌≡◌ {A = ℕ} 0 1 = cc in absurd (omega arith))
  where
    month : (y : ℤ) (m d : ℕ) → 1 ≤ d → d ≤ month_days (leap y) m → m < 13
    month y m d p q = by_test (ltb m 13) (ltb-true m 13) (λ h. absurd (omega (arith, past_12 (leap y) m (ltb-false m 13 h))))
