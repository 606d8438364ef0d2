-- The day numbers count days without a gap: the day after a day has the next number, within a month, from month to month and from
-- year to year. Assumes nothing.
use mathlib.Core.Path.{◌≡◌, refl, ap, ◌∙◌}
use mathlib.Core.Bool.{Bool, true, false}
use Prim.Native.Nat.{ℕ, zero, suc, ◌+◌, ◌-◌, ◌≤◌, ◌<◌}
use native.Mathlib.Omega.{arith}
use lib.IntN.{ℤ, pos, neg_ℤ, ◌+ℤ◌}
use Rattle.number.proofs.Zed.{P, N, add_pn, P-neg, N-neg, eq_of}
use Rattle.calendar.specs.Calendar.{leap, days_of, year_days, span, year_start, month_days, before, day_number}
use Rattle.calendar.proofs.Years.{by_1970, later, sooner}
use Rattle.calendar.proofs.Months.{next_before, has_days}

pub next_day : (y : ℤ) (m d : ℕ) → 1 ≤ d → day_number y m (d + 1) ≡ day_number y m d +ℤ pos 1
next_day y m d h =
    eq_of (day_number y m (d + 1)) (day_number y m d +ℤ pos 1)
    (omega (
      arith,
      add_pn (year_start y) (pos (before (leap y) m + (d + 1 - 1))),
      add_pn (year_start y) (pos (before (leap y) m + (d - 1))),
      add_pn (day_number y m d) (pos 1),
    ))

month_after : (y : ℤ) (m : ℕ) → 1 ≤ m → m ≤ 12 → day_number y (m + 1) 1 ≡ day_number y m (month_days (leap y) m) +ℤ pos 1
month_after y m h k =
    eq_of (day_number y (m + 1) 1) (day_number y m (month_days (leap y) m) +ℤ pos 1)
    (omega (
      arith,
      add_pn (year_start y) (pos (before (leap y) (m + 1) + (1 - 1))),
      add_pn (year_start y) (pos (before (leap y) m + (month_days (leap y) m - 1))),
      add_pn (day_number y m (month_days (leap y) m)) (pos 1),
      next_before (leap y) m,
      has_days (leap y) m h k,
    ))

pub next_month : (y : ℤ) (m : ℕ) → 1 ≤ m → m < 12 → day_number y (m + 1) 1 ≡ day_number y m (month_days (leap y) m) +ℤ pos 1
next_month y m h k = month_after y m h (omega arith)

-- ---- the years, one after the other

span_front : (y : ℤ) (k : ℕ) → span y (suc k) ≡ year_days y + span (y +ℤ pos 1) k
unfolding span
span_front y zero = omega (arith, ap year_days same)
  where
    same : y +ℤ pos 0 ≡ y
    same = eq_of (y +ℤ pos 0) y (omega (arith, add_pn y (pos 0)))
span_front y (suc k) = omega (arith, span_front y k, ap year_days same)
  where
    same : y +ℤ pos (suc k) ≡ y +ℤ pos 1 +ℤ pos k
    same =
        eq_of (y +ℤ pos (suc k)) (y +ℤ pos 1 +ℤ pos k)
        (omega (arith, add_pn y (pos (suc k)), add_pn y (pos 1), add_pn (y +ℤ pos 1) (pos k)))

span_back : (y : ℤ) (k : ℕ) → span y (suc k) ≡ span y k + year_days (y +ℤ pos k)
unfolding span
span_back y k = refl

next_start : (y : ℤ) → year_start (y +ℤ pos 1) ≡ year_start y +ℤ pos (year_days y)
next_start y = by_1970 y after sooner_too
  where
    after : (k : ℕ) → P y ≡ N y + 1970 + k → year_start (y +ℤ pos 1) ≡ year_start y +ℤ pos (year_days y)
    after k e =
        let q : pos 1970 +ℤ pos k ≡ y = eq_of (pos 1970 +ℤ pos k) y (omega (arith, add_pn (pos 1970) (pos k))) in
        rw (later y k e, later (y +ℤ pos 1) (suc k) (omega (arith, add_pn y (pos 1))))
        (ap pos (omega (arith, span_back (pos 1970) k, ap year_days q)))

    back : (a b : ℕ) → neg_ℤ (pos b) ≡ neg_ℤ (pos (a + b)) +ℤ pos a
    back a b =
        let s : ℤ = neg_ℤ (pos (a + b)) in
        eq_of (neg_ℤ (pos b)) (s +ℤ pos a)
        (omega (arith, add_pn s (pos a), P-neg (pos b), N-neg (pos b), P-neg (pos (a + b)), N-neg (pos (a + b))))

    sooner_too : (k : ℕ) → P y + suc k ≡ N y + 1970 → year_start (y +ℤ pos 1) ≡ year_start y +ℤ pos (year_days y)
    sooner_too k e =
        rw (sooner y (suc k) e, sooner (y +ℤ pos 1) k (omega (arith, add_pn y (pos 1))), span_front y k)
        (back (year_days y) (span (y +ℤ pos 1) k))

-- a year's days are those of its months, and a month 13 would start where the next year does
year_end : (y : ℤ) → day_number (y +ℤ pos 1) 1 1 ≡ day_number y 13 1
unfolding before
year_end y =
    eq_of (day_number (y +ℤ pos 1) 1 1) (day_number y 13 1)
    (omega (
      arith,
      add_pn (year_start (y +ℤ pos 1)) (pos (before (leap (y +ℤ pos 1)) 1 + (1 - 1))),
      add_pn (year_start y) (pos (before (leap y) 13 + (1 - 1))),
      add_pn (year_start y) (pos (year_days y)),
      ap P (next_start y),
      ap N (next_start y),
      all_months (leap y),
      no_months (leap (y +ℤ pos 1)),
    ))
  where
    all_months : (l : Bool) → before l 13 ≡ days_of l
    all_months true = refl
    all_months false = refl

    no_months : (l : Bool) → before l 1 ≡ 0
    no_months l = refl

pub next_year : (y : ℤ) → day_number (y +ℤ pos 1) 1 1 ≡ day_number y 12 31 +ℤ pos 1
next_year y = year_end y ∙ month_after y 12 (omega arith) (omega arith)
