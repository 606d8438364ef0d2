-- What an interval text answers: the units and contributions of its components, the running totals, the refusals 1, 8, 9, 10 and 11 in
-- order (document 01, "Interval grammar" and "Refusals"). The limit n is the most digits behind a point. Meaning.antt says the same
-- without computing; `Rattle.rule.proofs.Demand3` joins the two. Assumes nothing.
use Rattle.std.specs.Prelude.{Bool, false, cond, ◌&&◌, ◌||◌, List, [], ◌∷◌, ℕ, ◌%◌, eqb, ℤ, pos, nat_abs, ◌+ℤ◌, ◌*ℤ◌, Option, None, Some}
use Rattle.std.specs.Int.Signed.{quot_z}
use Rattle.utf8.specs.Utf8.{utf8}
use Rattle.number.specs.Widths.{in_signed}
use Rattle.refusal.specs.Outcome.{Outcome, accepted, refused}
use Rattle.unit.specs.Units.{rank}
use Rattle.component.specs.Grammar.{Component}
use Rattle.component.specs.Division.{divide}
use Rattle.amount.specs.Scan.{amount_of}
use Rattle.component.specs.Spelled.{unit_for}
use Rattle.unit.specs.declared.IntervalUnit.{IntervalUnit}
use Rattle.unit.specs.declared.IntervalUnit.TheVariants.{Year, Month, Day}
use Rattle.rule.specs.Contribution.{Counts, contribution, fits, plus, zeros}
use Rattle.rule.specs.Meaning.{DayTime, day_time_of}

-- the contribution of a component
unfoldable pub gives : ℕ → IntervalUnit → Component → Counts
gives n u c = contribution n (unit_for u c) (amount_of n c.amount)

-- the last totals, from c on, if each contribution and each running total fits
unfoldable pub totals : ℕ → IntervalUnit → Counts → List Component → Option Counts
totals n u c [] = Some c
totals n u c (p ∷ d) = cond (fits (gives n u p) && fits (plus c (gives n u p))) (totals n u (plus c (gives n u p)) d) None

-- a component has the unit v
unfoldable pub has : IntervalUnit → IntervalUnit → List Component → Bool
has u v [] = false
has u v (c ∷ d) = eqb (rank v) (rank (unit_for u c)) || has u v d

-- a unit comes twice
unfoldable pub twice : IntervalUnit → List Component → Bool
twice u [] = false
twice u (c ∷ d) = has u (unit_for u c) d || twice u d

-- the totals, or 10
unfoldable pub on_totals : Option Counts → Outcome Counts
on_totals None = refused 10
on_totals (Some c) = accepted c

-- the answer of a division, or 8 where there is none
unfoldable pub on_division : ℕ → IntervalUnit → Option (List Component) → Outcome Counts
on_division n u None = refused 8
on_division n u (Some d) = cond (twice u d) (refused 9) (on_totals (totals n u zeros d))

-- the answer of a text, with the default unit u: `parse_interval_month_day_nano_config`
unfoldable pub month_day_nano : ℕ → IntervalUnit → List ℕ → Outcome Counts
month_day_nano n u t = cond (utf8 t) (on_division n u (divide n t)) (refused 1)

-- ---- the narrowed forms

-- the total months, where days and nanoseconds are 0
unfoldable pub to_year_months : Counts → Option ℤ
to_year_months c = cond (eqb (nat_abs c.days) 0 && eqb (nat_abs c.nanos) 0) (Some c.months) None

-- months times 30, and with the days, fit 32 bits; 1,000,000 divides the nanoseconds, and their milliseconds fit 32 bits
unfoldable pub day_time_fits : Counts → Bool
day_time_fits c =
    in_signed 31 (c.months *ℤ pos 30) &&
    (in_signed 31 (c.months *ℤ pos 30 +ℤ c.days) &&
    (eqb (nat_abs c.nanos % 1_000_000) 0 && in_signed 31 (quot_z c.nanos (pos 1_000_000))))

-- months times 30 plus days, and nanoseconds over 1,000,000
unfoldable pub to_day_time : Counts → Option DayTime
to_day_time c = cond (day_time_fits c) (Some (day_time_of (c.months *ℤ pos 30 +ℤ c.days) (quot_z c.nanos (pos 1_000_000)))) None

-- the narrowed result, or 11
unfoldable pub or_narrowed : {A : Type 0} → Option A → Outcome A
or_narrowed None = refused 11
or_narrowed (Some v) = accepted v

-- narrowed by f; a refusal stands
unfoldable pub narrowed : {A : Type 0} → (Counts → Option A) → Outcome Counts → Outcome A
narrowed f (accepted c) = or_narrowed (f c)
narrowed f (refused k) = refused k

-- ---- the three plain readers, with their default units

-- `parse_interval_year_month`
unfoldable pub year_month : ℕ → List ℕ → Outcome ℤ
year_month n t = narrowed to_year_months (month_day_nano n Year t)

-- `parse_interval_day_time`
unfoldable pub day_time : ℕ → List ℕ → Outcome DayTime
day_time n t = narrowed to_day_time (month_day_nano n Day t)

-- `parse_interval_month_day_nano`
unfoldable pub plain_month_day_nano : ℕ → List ℕ → Outcome Counts
plain_month_day_nano n t = month_day_nano n Month t
