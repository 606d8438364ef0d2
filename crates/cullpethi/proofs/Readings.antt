-- Document 01's P readings, over the definitions that the contracts cite: one table of readers, texts and answers, and one theorem over
-- it. Assumes nothing.
use mathlib.Core.Path.{refl}
use mathlib.Core.List.{List, [], ◌∷◌}
use Prim.Native.Nat.{ℕ}
use Prim.Native.String.{String}
use lib.IntN.{ℤ, pos, neg_ℤ}
use Rattle.text.specs.Digits.{digits, value, run}
use Rattle.utf8.specs.Quoted.{bytes}
use Rattle.text.specs.Trim.{blanks, trim_start, trim_end}
use Rattle.utf8.specs.Utf8.{well_formed}
use Rattle.text.proofs.Table.{Row, row, Readings}
use Rattle.white.specs.WhiteSpace.{white1, white2, white3, white_of}
use Rattle.refusal.specs.Outcome.{Outcome, accepted, refused, and_then}
use Rattle.calendar.specs.Calendar.{span, before as before_month}
use Rattle.clock.specs.Clock.{nanos_of}
use Rattle.time.specs.Answer.{time_of_day, time_nanos}
use Rattle.ymd.specs.Forms.{to_hyphen, extended_ymd, short_day}
use Rattle.date.specs.Answer.{plain_day}
use Rattle.clock.specs.Grammar.{no_digits}
use Rattle.column.specs.Columns.{column}
use Rattle.column.specs.declared.Column.TheVariants.{Date32}
use Rattle.unit.specs.Units.{rank, spellings, same, one_of, find, low, kelvin, lower, unit_of, present, is_unit, word_len, or_else}
use Rattle.amount.specs.Grammar.{precision, whole_fits, scaled}
use Rattle.amount.specs.Scan.{negative, sign_len, point_len, digits_len, amount_len, frac_of, unsigned_of, amount_of}
use Rattle.component.specs.Division.{end_step, unit_step, rest_step, amount_step, step, before, then, divide_by, divide}
use Rattle.component.specs.Spelled.{spelled, unit_for}
use Rattle.rule.specs.Contribution.{times, whole_times, frac_times, contribution, fits, plus}
use Rattle.rule.specs.Answer.{gives, totals, has, twice, on_totals, on_division, month_day_nano, plain_month_day_nano}

-- one count, and three
abbrev one : Outcome ℤ → Outcome (List ℤ)
one o = and_then o (λ z. accepted (z ∷ []))

abbrev interval : List ℕ → Outcome (List ℤ)
interval t = and_then (plain_month_day_nano precision t) (λ c. accepted (c.months ∷ c.days ∷ c.nanos ∷ []))

-- months, days and nanoseconds
abbrev reads : String → ℤ → ℤ → ℤ → Row (Outcome (List ℤ))
reads t m d n = row (interval (bytes t)) (accepted (m ∷ d ∷ n ∷ []))

abbrev refuses : String → ℕ → Row (Outcome (List ℤ))
refuses t n = row (interval (bytes t)) (refused n)

abbrev rows : List (Row (Outcome (List ℤ)))
rows =
    refuses "" 8 ∷
    reads "1.5 months" (pos 1) (pos 15) (pos 0) ∷
    reads "-.5 days" (pos 0) (pos 0) (neg_ℤ (pos 43_200_000_000_000)) ∷
    reads "0.5 weeks" (pos 0) (pos 0) (pos 302_400_000_000_000) ∷
    reads "1 day 2" (pos 2) (pos 1) (pos 0) ∷
    refuses "1  day" 8 ∷
    refuses "+1 day" 8 ∷
    refuses "1 day 1 d" 9 ∷
    reads "306783378 weeks -2 days 0.1 months" (pos 0) (pos 2_147_483_647) (pos 0) ∷
    refuses "306783378 weeks 0.1 months -2 days" 10 ∷
    row (one (time_nanos (bytes "23:59:60"))) (accepted (pos 86_400_000_000_000 ∷ [])) ∷
    row (one (column Date32 (bytes "2020-1-1xy"))) (accepted (pos 18_262 ∷ [])) ∷
    []

pub readings : Readings rows
unfolding digits value run blanks trim_start trim_end well_formed white1 white2 white3 white_of span before_month nanos_of time_of_day to_hyphen extended_ymd short_day plain_day no_digits rank spellings same one_of find low kelvin lower unit_of present is_unit whole_fits negative sign_len point_len digits_len amount_len word_len end_step unit_step rest_step amount_step step before then divide_by divide scaled frac_of unsigned_of amount_of times whole_times frac_times contribution or_else spelled unit_for gives fits plus totals has twice on_totals on_division month_day_nano plain_month_day_nano
readings = refl
