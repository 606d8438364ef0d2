-- What an interval means in the default unit that a C caller numbers. The numbers are the library's own (unit: `Units.unit_numbered`).
-- Assumes nothing.
use Rattle.std.specs.Prelude.{List, ℕ, Option, None, Some}
use Rattle.refusal.specs.Outcome.{Outcome, refused}
use Rattle.amount.specs.Grammar.{precision}
use Rattle.unit.specs.declared.IntervalUnit.{IntervalUnit}
use Rattle.rule.specs.Contribution.{Counts}
use Rattle.rule.specs.Answer.{month_day_nano}
use Rattle.place.specs.Where.{place}
use Rattle.listing.specs.Lines.{listing}

-- 255 where a number is no unit's
abbrev pub in_unit : Option IntervalUnit → List ℕ → Outcome Counts
in_unit (Some u) t = month_day_nano precision u t
in_unit None t = refused 255

-- the place of the refusal, if it has one; 255 has none
abbrev pub place_in_unit : Option IntervalUnit → List ℕ → Option ℕ
place_in_unit (Some u) t = place precision u t
place_in_unit None t = None

-- the listing of a text; 255 where a number is no unit's
abbrev pub listing_in_unit : Option IntervalUnit → List ℕ → Outcome (List ℕ)
listing_in_unit (Some u) t = listing precision u t
listing_in_unit None t = refused 255
