-- What the code's answers say of records. Assumes nothing.
use Rattle.std.specs.Prelude.{◌≡◌, List, ℕ, Option, option_map, Result, Ok, Err}
use Rattle.refusal.specs.Outcome.{number_of}
use Rattle.refusal.specs.declared.Refusal.{Refusal}
use Rattle.interval.specs.declared.IntervalDayTime.{IntervalDayTime}
use Rattle.rule.specs.Meaning.{DayTime, day_time_of}
use Rattle.records.specs.Slices.{Answer, converted, stays, not_read}
use Rattle.records.specs.Answer.{left}
use Rattle.records.specs.declared.RecordsRefusal.{RecordsRefusal}
use Rattle.records.specs.declared.RecordsRefusal.TheVariants.{Record, Call}

-- the days and milliseconds that the code's `IntervalDayTime` holds
abbrev pub day_time_held : IntervalDayTime → DayTime
day_time_held x = day_time_of x.days.0 x.millis.0

abbrev pub maybe_day_time : Option IntervalDayTime → Option DayTime
maybe_day_time = option_map day_time_held

-- an answer without the bytes, which the buffer has
abbrev pub bare : Answer (List ℕ) → Answer (Unit {0})
bare (converted bytes) = converted tt
bare (stays i) = stays i
bare (not_read n) = not_read n

-- the answer, with its number where no record is read
abbrev pub said : Result (Unit {0}) Refusal → Answer (Unit {0})
said (Ok u) = converted u
said (Err why) = not_read (number_of why)

-- of records that may stay
abbrev pub said_of_records : Result (Unit {0}) RecordsRefusal → Answer (Unit {0})
said_of_records (Ok u) = converted u
said_of_records (Err (Record i)) = stays i
said_of_records (Err (Call why)) = not_read (number_of why)

-- what is said is the answer, and the other buffer is as it leaves it
pub record Answers (a : Answer (List ℕ)) (r : Answer (Unit {0})) (before after : List ℕ) : Type 0 where
  pub says : r ≡ bare a
  pub leaves : after ≡ left a before
