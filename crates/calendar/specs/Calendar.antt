-- The proleptic Gregorian calendar (ISO 8601; RFC 3339, appendix C for the leap rule), by counting days from 1970-01-01, forward and
-- back. A year is any whole number: year 0 comes before year 1, and year -1 before year 0. A month or a day that the calendar does
-- not have makes no date. Assumes nothing.
use Rattle.std.specs.Prelude.{Bool, true, false, cond, not, ◌&&◌, ◌||◌, [], ◌∷◌, ℕ, zero, suc, ◌+◌, ◌-◌, ◌%◌, eqb, leb, get_or, ℤ, pos, neg_ℤ, nat_abs, ◌+ℤ◌, ◌-ℤ◌, Option, None, Some}
use Rattle.std.specs.Int.Signed.{le_z}

-- k divides the year y
abbrev pub divides : ℕ → ℤ → Bool
divides k y = eqb (nat_abs y % k) 0

-- RFC 3339, appendix C: divisible by 4, and not by 100 unless by 400
abbrev pub leap : ℤ → Bool
leap y = divides 4 y && (not (divides 100 y) || divides 400 y)

-- the days of a leap year and of any other
abbrev pub days_of : Bool → ℕ
days_of true = 366
days_of false = 365

abbrev pub year_days : ℤ → ℕ
year_days y = days_of (leap y)

-- the days of the k years from y on
unfoldable pub span : ℤ → ℕ → ℕ
span y zero = 0
span y (suc k) = span y k + year_days (y +ℤ pos k)

-- the day number of 1 January: the days of the years from 1970 on, or minus the days of those up to 1970
abbrev pub year_start : ℤ → ℤ
year_start y =
    cond (le_z (pos 1970) y) (pos (span (pos 1970) (nat_abs (y -ℤ pos 1970)))) (neg_ℤ (pos (span y (nat_abs (pos 1970 -ℤ y)))))

-- RFC 3339, section 5.7: the days of each month, January being 1; 0 where there is no such month
abbrev pub month_days : Bool → ℕ → ℕ
month_days l m = get_or (0 ∷ 31 ∷ cond l 29 28 ∷ 31 ∷ 30 ∷ 31 ∷ 30 ∷ 31 ∷ 31 ∷ 30 ∷ 31 ∷ 30 ∷ 31 ∷ []) m 0

-- the days of the year before a month
unfoldable pub before : Bool → ℕ → ℕ
before l zero = 0
before l (suc m) = before l m + month_days l m

-- the calendar has this day
abbrev pub is_date : ℤ → ℕ → ℕ → Bool
is_date y m d = leb 1 d && leb d (month_days (leap y) m)

-- days since 1970-01-01
abbrev pub day_number : ℤ → ℕ → ℕ → ℤ
day_number y m d = year_start y +ℤ pos (before (leap y) m + (d - 1))

-- the day number of a date, if the calendar has it
abbrev pub civil : ℤ → ℕ → ℕ → Option ℤ
civil y m d = cond (is_date y m d) (Some (day_number y m d)) None
