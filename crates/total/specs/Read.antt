-- What the answer of `Interval::parse` says. Assumes nothing.
use Rattle.std.specs.Prelude.{Option, None, Result, Ok, Err, ℕ}
use Rattle.refusal.specs.Outcome.{Outcome, accepted}
use Rattle.place.specs.Read.{place_in, because_of}
use Rattle.rule.specs.Contribution.{Counts, counts}
use Rattle.total.specs.declared.Interval.{Interval}
use Rattle.place.specs.declared.IntervalRefusal.{IntervalRefusal}

-- the counts that the code's `Interval` holds
abbrev pub counts_of : Interval → Counts
counts_of i = counts i.months.0 i.days.0 i.nanos.0

-- the counts of an interval, or a refusal
abbrev pub interval_outcome : Result Interval IntervalRefusal → Outcome Counts
interval_outcome (Ok i) = accepted (counts_of i)
interval_outcome (Err why) = because_of why

-- the place of a refusal, if it has one
abbrev pub place_read : {A : Type 0} → Result A IntervalRefusal → Option ℕ
place_read (Ok v) = None
place_read (Err why) = place_in why
