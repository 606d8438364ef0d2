-- Readings of the definitions: document 01's interval readings that are not marked P, and others that reach each unit, each sign, and each
-- limit on both sides. Assumes nothing.
use mathlib.Core.Path.{refl}
use mathlib.Core.List.{List, [], ◌∷◌, ◌++◌}
use Prim.Native.Nat.{ℕ}
use Prim.Native.String.{String}
use lib.IntN.{ℤ, pos, neg_ℤ}
use Rattle.text.specs.Digits.{value, run}
use Rattle.utf8.specs.Utf8.{encode, well_formed}
use Rattle.white.specs.WhiteSpace.{white1, white2, white3, white_of}
use Rattle.refusal.specs.Outcome.{Outcome, accepted, refused}
use Rattle.utf8.specs.Quoted.{bytes}
use Rattle.text.proofs.Table.{Row, row, Readings}
use Rattle.unit.specs.Units.{rank, spellings, same, one_of, find, low, kelvin, lower, unit_of, present, is_unit, word_len, or_else}
use Rattle.amount.specs.Grammar.{precision, whole_fits, scaled}
use Rattle.amount.specs.Scan.{negative, sign_len, point_len, digits_len, amount_len, frac_of, unsigned_of, amount_of}
use Rattle.component.specs.Division.{end_step, unit_step, rest_step, amount_step, step, before, then, divide_by, divide}
use Rattle.component.specs.Spelled.{spelled, unit_for}
use Rattle.unit.specs.declared.IntervalUnit.{IntervalUnit}
use Rattle.unit.specs.declared.IntervalUnit.TheVariants.{Century, Month, Nanosecond}
use Rattle.rule.specs.Contribution.{Counts, counts, times, whole_times, frac_times, contribution, fits, plus}
use Rattle.rule.specs.Answer.{gives, totals, has, twice, on_totals, on_division, month_day_nano, to_year_months, day_time_fits, to_day_time, or_narrowed, narrowed, year_month, day_time, plain_month_day_nano}
use Rattle.rule.specs.Meaning.{DayTime, day_time_of}

-- an answer in one of the forms
pub data Said : Type 0 where
  in_counts : Outcome Counts → Said
  in_months : Outcome ℤ → Said
  in_days : Outcome DayTime → Said

-- the plain month-day-nano reader
abbrev plain : List ℕ → Outcome Counts → Row Said
plain t r = row (in_counts (plain_month_day_nano precision t)) (in_counts r)

-- it reads months, days and nanoseconds
abbrev reads : String → ℤ → ℤ → ℤ → Row Said
reads t m d n = plain (bytes t) (accepted (counts m d n))

-- it refuses
abbrev refuses : String → ℕ → Row Said
refuses t k = plain (bytes t) (refused k)

-- the reader with a limit of fraction digits and a default unit
abbrev config : ℕ → IntervalUnit → String → Outcome Counts → Row Said
config n u t r = row (in_counts (month_day_nano n u (bytes t))) (in_counts r)

abbrev year_month_lem : String → Outcome ℤ → Row Said
year_month_lem t r = row (in_months (year_month precision (bytes t))) (in_months r)

abbrev day_time_lem : String → Outcome DayTime → Row Said
day_time_lem t r = row (in_days (day_time precision (bytes t))) (in_days r)

abbrev minus : ℕ → ℤ
minus k = neg_ℤ (pos k)

abbrev rows : List (Row Said)
rows =
    -- document 01, "Readings on either side"
    reads "1.000000000000000 days" (pos 0) (pos 1) (pos 0) ∷
    refuses "1.0000000000000000 days" 8 ∷
    year_month_lem "1 week -7 days" (accepted (pos 0)) ∷
    reads "0.13 years" (pos 1) (pos 0) (pos 0) ∷
    -- each unit, and each sign
    reads "1.5 centuries" (pos 1800) (pos 0) (pos 0) ∷
    reads "1.5 decades" (pos 180) (pos 0) (pos 0) ∷
    reads "1.5 years" (pos 18) (pos 0) (pos 0) ∷
    reads "1.5 weeks" (pos 0) (pos 7) (pos 302_400_000_000_000) ∷
    reads "1.5 days" (pos 0) (pos 1) (pos 43_200_000_000_000) ∷
    reads "1.5 hours" (pos 0) (pos 0) (pos 5_400_000_000_000) ∷
    reads "1.5 minutes" (pos 0) (pos 0) (pos 90_000_000_000) ∷
    reads "1.5 seconds" (pos 0) (pos 0) (pos 1_500_000_000) ∷
    reads "1.5 milliseconds" (pos 0) (pos 0) (pos 1_500_000) ∷
    reads "1.5 microseconds" (pos 0) (pos 0) (pos 1_500) ∷
    reads "1.5 nanoseconds" (pos 0) (pos 0) (pos 1) ∷
    reads "-1.999 centuries" (minus 2398) (pos 0) (pos 0) ∷
    reads "-1.999 months" (minus 1) (minus 29) (pos 0) ∷
    reads "-1.999 weeks" (pos 0) (minus 7) (minus 604_195_200_000_000) ∷
    reads "-1.999 nanoseconds" (pos 0) (pos 0) (minus 1) ∷
    reads "0.999999999999999 weeks" (pos 0) (pos 0) (pos 604_799_999_999_999) ∷
    reads "0.999999999999999 days" (pos 0) (pos 0) (pos 86_399_999_999_999) ∷
    reads "-0.000000000000001 weeks" (pos 0) (pos 0) (pos 0) ∷
    reads "-0.000000000000002 weeks" (pos 0) (pos 0) (minus 1) ∷
    reads "1c 2dec 3y 4mon 5w 6d 7h 8m 9s 10ms 11us 12nanosecond" (pos 1480) (pos 41) (pos 25_689_010_011_012) ∷
    -- default units
    reads "7" (pos 7) (pos 0) (pos 0) ∷
    year_month_lem "7" (accepted (pos 84)) ∷
    day_time_lem "7" (accepted (day_time_of (pos 7) (pos 0))) ∷
    config precision Century "7" (accepted (counts (pos 8400) (pos 0) (pos 0))) ∷
    config precision Nanosecond "-7" (accepted (counts (pos 0) (pos 0) (minus 7))) ∷
    refuses "1 month 2" 9 ∷
    -- spelling and white space
    plain (bytes "1 wee" ++ (encode 0x212A ++ bytes " 1 MONTH 1 DAY")) (accepted (counts (pos 1) (pos 8) (pos 0))) ∷
    plain (bytes "1" ++ (encode 0x3000 ++ (bytes "day" ++ (encode 0x00A0 ++ bytes "2")))) (accepted (counts (pos 2) (pos 1) (pos 0))) ∷
    refuses "1 fortnight" 8 ∷
    refuses "1 day " 8 ∷
    refuses " 1 day" 8 ∷
    refuses "1 2 days" 8 ∷
    refuses "day" 8 ∷
    -- amounts
    reads "007 days" (pos 0) (pos 7) (pos 0) ∷
    refuses "7. days" 8 ∷
    refuses "." 8 ∷
    refuses "-" 8 ∷
    refuses "--1 day" 8 ∷
    refuses "1.-5 days" 8 ∷
    refuses "1.5.5 days" 8 ∷
    reads "9223372036854775807 nanoseconds" (pos 0) (pos 0) (pos 9_223_372_036_854_775_807) ∷
    refuses "9223372036854775808 nanoseconds" 8 ∷
    reads "-9223372036854775808 nanoseconds" (pos 0) (pos 0) (minus 9_223_372_036_854_775_808) ∷
    refuses "-9223372036854775809 nanoseconds" 8 ∷
    config 18 Month "0.000000000000000001 months" (accepted (counts (pos 0) (pos 0) (pos 0))) ∷
    config 18 Month "0.0000000000000000001 months" (refused 8) ∷
    -- contributions that fit and do not
    reads "2147483647 months" (pos 2_147_483_647) (pos 0) (pos 0) ∷
    refuses "2147483648 months" 10 ∷
    reads "-2147483648 months" (minus 2_147_483_648) (pos 0) (pos 0) ∷
    refuses "-2147483649 months" 10 ∷
    reads "2147483647 days" (pos 0) (pos 2_147_483_647) (pos 0) ∷
    refuses "2147483648 days" 10 ∷
    reads "-2147483648 days" (pos 0) (minus 2_147_483_648) (pos 0) ∷
    refuses "-2147483649 days" 10 ∷
    reads "9223372036854775.807 us" (pos 0) (pos 0) (pos 9_223_372_036_854_775_807) ∷
    refuses "9223372036854775.808 us" 10 ∷
    reads "-9223372036854775.808 us" (pos 0) (pos 0) (minus 9_223_372_036_854_775_808) ∷
    refuses "-9223372036854775.809 us" 10 ∷
    -- running totals that fit, of contributions that do not
    refuses "-1 month 178956970.67 years" 10 ∷
    refuses "-6 days 306783379 weeks" 10 ∷
    refuses "-1 nanosecond 9223372036854775.808 us" 10 ∷
    -- running totals that fit and do not, of contributions that fit
    reads "2147483635 months 1 year" (pos 2_147_483_647) (pos 0) (pos 0) ∷
    refuses "2147483636 months 1 year" 10 ∷
    reads "-2147483636 months -1 year" (minus 2_147_483_648) (pos 0) (pos 0) ∷
    refuses "-2147483637 months -1 year" 10 ∷
    reads "2147483640 days 1 week" (pos 0) (pos 2_147_483_647) (pos 0) ∷
    refuses "2147483641 days 1 week" 10 ∷
    reads "-2147483641 days -1 week" (pos 0) (minus 2_147_483_648) (pos 0) ∷
    refuses "-2147483642 days -1 week" 10 ∷
    reads "9223372036854774807 nanoseconds 1 us" (pos 0) (pos 0) (pos 9_223_372_036_854_775_807) ∷
    refuses "9223372036854774808 nanoseconds 1 us" 10 ∷
    reads "-9223372036854774808 nanoseconds -1 us" (pos 0) (pos 0) (minus 9_223_372_036_854_775_808) ∷
    refuses "-9223372036854774809 nanoseconds -1 us" 10 ∷
    -- the order of refusals
    plain (0x31 ∷ 0xFF ∷ []) (refused 1) ∷
    refuses "1 day 1 day é" 8 ∷
    refuses "99999999999 days 1 day" 9 ∷
    year_month_lem "99999999999 days" (refused 10) ∷
    -- year-month
    year_month_lem "-1 year 1 month" (accepted (minus 11)) ∷
    year_month_lem "1 year 1 day" (refused 11) ∷
    year_month_lem "1 year -1 nanosecond" (refused 11) ∷
    -- day-time
    day_time_lem "71582788 months 7 days" (accepted (day_time_of (pos 2_147_483_647) (pos 0))) ∷
    day_time_lem "71582788 months 8 days" (refused 11) ∷
    day_time_lem "71582789 months -23 days" (refused 11) ∷
    day_time_lem "-71582788 months -8 days" (accepted (day_time_of (minus 2_147_483_648) (pos 0))) ∷
    day_time_lem "-71582788 months -9 days" (refused 11) ∷
    day_time_lem "-71582789 months 23 days" (refused 11) ∷
    day_time_lem "2147483647 ms" (accepted (day_time_of (pos 0) (pos 2_147_483_647))) ∷
    day_time_lem "2147483648 ms" (refused 11) ∷
    day_time_lem "-2147483648 ms" (accepted (day_time_of (pos 0) (minus 2_147_483_648))) ∷
    day_time_lem "-2147483649 ms" (refused 11) ∷
    day_time_lem "1 us" (refused 11) ∷
    day_time_lem "-1.5 ms" (refused 11) ∷
    []

pub readings : Readings rows
unfolding value run well_formed white1 white2 white3 white_of rank spellings same one_of find low kelvin lower unit_of present is_unit whole_fits negative sign_len point_len digits_len amount_len word_len end_step unit_step rest_step amount_step step before then divide_by divide scaled frac_of unsigned_of amount_of times whole_times frac_times contribution or_else spelled unit_for gives fits plus totals has twice on_totals on_division month_day_nano to_year_months day_time_fits to_day_time or_narrowed narrowed year_month day_time plain_month_day_nano
readings = refl
