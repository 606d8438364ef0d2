-- What a refusal with its place says: document 01's refusal, and the place where it has one. Assumes nothing.
use Rattle.std.specs.Prelude.{Option, None, Some, ℕ}
use Rattle.refusal.specs.Outcome.{Outcome, because}
use Rattle.refusal.specs.declared.Refusal.{Refusal}
use Rattle.refusal.specs.declared.Refusal.TheVariants.{NotUtf8, Interval, RepeatedUnit, Overflow, Narrowed}
use Rattle.place.specs.declared.IntervalRefusal.{IntervalRefusal}
use Rattle.place.specs.declared.IntervalRefusal.TheVariants.{NotUtf8 as NotUtf8At, Interval as IntervalAt, RepeatedUnit as RepeatedUnitAt, Overflow as OverflowAt, Narrowed as NarrowedAt}

-- the refusal: 1, 8, 9, 10 or 11
abbrev pub refusal_of : IntervalRefusal → Refusal
refusal_of NotUtf8At = NotUtf8
refusal_of (IntervalAt p) = Interval
refusal_of (RepeatedUnitAt p) = RepeatedUnit
refusal_of (OverflowAt p) = Overflow
refusal_of NarrowedAt = Narrowed

-- its place: "8, 9 and 10 now carry a place", 1 and 11 have none
abbrev pub place_in : IntervalRefusal → Option ℕ
place_in NotUtf8At = None
place_in (IntervalAt p) = Some p
place_in (RepeatedUnitAt p) = Some p
place_in (OverflowAt p) = Some p
place_in NarrowedAt = None

-- a refusal as an outcome, without its place
abbrev pub because_of : {A : Type 0} → IntervalRefusal → Outcome A
because_of why = because (refusal_of why)
