-- A date's day number, from what is known of its year and its month, and the dates that the calendar does not have. Assumes nothing.
use mathlib.Core.Path.{◌≡◌, refl, ap}
use mathlib.Core.Bool.{Bool, true, false}
use Rattle.std.specs.Prelude.{None, Some}
use Prim.Native.Nat.{ℕ, ◌+◌, ◌-◌, ◌%◌, ◌^◌, ◌≤◌, ◌<◌}
use native.Mathlib.Omega.{arith}
use lib.Dec.{eqb}
use lib.IntN.{ℤ, pos, ◌-ℤ◌}
use mir.Syntax.{w64}
use mir.Val.{SFits, to_z}
use mir.Facts.{to_z_pos}
use Rattle.number.proofs.Zed.{add_pn, sub-ℤ, eq_of, fits_of}
use Rattle.text.proofs.Bools.{within_yes, within_over}
use Rattle.calendar.specs.Calendar.{leap, days_of, year_days, year_start, month_days, before, day_number, civil}
use Rattle.calendar.specs.Cycle.{start}
use Rattle.calendar.proofs.Years.{Counts, shift, in_cycle, first_day}

-- ---- dates that the calendar does not have

pub too_late : (y : ℤ) (m d : ℕ) → month_days (leap y) m < d → None ≡ civil y m d
too_late y m d h = rw (within_over 1 d (month_days (leap y) m) h)

-- ---- n counts the year y

module _ (y : ℤ) (n : ℕ) (h : Counts n y) where
  pub is_leap : (days : ℕ) → days ≡ year_days (pos (n % 400)) → eqb days 366 ≡ leap y
  is_leap days e = rw (e, in_cycle n, shift y n h) (by (leap y))
    where
      by : (l : Bool) → eqb (days_of l) 366 ≡ l
      by true = refl
      by false = refl

  -- u is the day, counted as n counts years, and e the days so counted before 1970
  pub number :
      (m d : ℕ) {u : ℕ} →
      u < 2 ^ 63 →
      u ≡ start n + before (leap y) m + (d - 1) →
      1 ≤ d →
      d ≤ month_days (leap y) m →
      (e : ℕ) →
      start 2147485970 ≡ e →
      Some (to_z w64 u -ℤ pos e) ≡ civil y m d
  number m d {u} fits p first last e q =
      rw (to_z_pos w64 fits, within_yes 1 d (month_days (leap y) m) first last) (ap Some same)
    where
      same : pos u -ℤ pos e ≡ day_number y m d
      same =
          eq_of (pos u -ℤ pos e) (day_number y m d)
          (omega (
            arith,
            sub-ℤ (pos u) (pos e),
            add_pn (year_start y) (pos (before (leap y) m + (d - 1))),
            first_day y n h,
          ))

-- a day so counted, less the days before 1970, is a number of 64 bits
pub difference : {u : ℕ} → u < 2 ^ 63 → (e : ℕ) → e < 2 ^ 63 → SFits w64 (to_z w64 u -ℤ pos e)
difference {u} fits e q =
    rw (to_z_pos w64 fits) (fits_of w64 (pos u -ℤ pos e) (omega (arith, sub-ℤ (pos u) (pos e))))
