-- What the answers of the narrowed readers say: months, or days and milliseconds, or a refusal and its place. Assumes nothing.
use Rattle.std.specs.Prelude.{Option, Result, Ok, Err, ℕ, ℤ}
use Rattle.refusal.specs.Outcome.{Outcome, accepted}
use Rattle.count.specs.declared.Months.{Months}
use Rattle.place.specs.Read.{because_of}
use Rattle.place.specs.declared.IntervalRefusal.{IntervalRefusal}
use Rattle.rule.specs.Meaning.{DayTime, day_time_of}
use Rattle.total.specs.Read.{place_read}
use Rattle.interval.specs.declared.IntervalDayTime.{IntervalDayTime}

-- what g makes of the answer, or a refusal
abbrev pub outcome_by : {A B : Type 0} → (A → B) → Result A IntervalRefusal → Outcome B
outcome_by g (Ok v) = accepted (g v)
outcome_by g (Err why) = because_of why

-- months, or a refusal
abbrev pub year_month_outcome : Result Months IntervalRefusal → Outcome ℤ
year_month_outcome = outcome_by (λ m. m.0)

-- the place of the refusal, if it has one
abbrev pub year_month_place : Result Months IntervalRefusal → Option ℕ
year_month_place = place_read

-- days and milliseconds, or a refusal
abbrev pub day_time_outcome : Result IntervalDayTime IntervalRefusal → Outcome DayTime
day_time_outcome = outcome_by (λ v. day_time_of v.days.0 v.millis.0)

-- the place of the refusal, if it has one
abbrev pub day_time_place : Result IntervalDayTime IntervalRefusal → Option ℕ
day_time_place = place_read
