-- The years of the calendar, from year 0 on: what the table of 401 year starts holds. Assumes nothing.
use Rattle.std.specs.Prelude.{◌≡◌, List, ℕ, zero, suc, ◌+◌, ◌<◌, length, get_or, pos}
use Rattle.calendar.specs.Calendar.{year_days}

-- the day number of a year's start, counted from the start of year 0: the days of the years 0 to n - 1
unfoldable pub start : ℕ → ℕ
start zero = 0
start (suc n) = start n + year_days (pos n)

-- document 01, Dates and stamps: 401 day numbers, one for the start of each year of the cycle and one past the end
unfoldable pub YearStarts : List ℕ → Type 0
YearStarts xs = (length xs ≡ 401) × ((y : ℕ) → y < 401 → get_or xs y 0 ≡ start y)
