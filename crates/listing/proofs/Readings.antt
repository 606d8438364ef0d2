-- Readings of the definitions: document 02's own listing, each unit's name, signs, and refusals. Assumes nothing.
use mathlib.Core.Path.{refl}
use mathlib.Core.List.{List, [], ◌∷◌}
use Prim.Native.Nat.{ℕ}
use Prim.Native.String.{String}
use Rattle.text.specs.Digits.{value, run}
use Rattle.utf8.specs.Utf8.{well_formed}
use Rattle.utf8.specs.Quoted.{bytes}
use Rattle.white.specs.WhiteSpace.{white1, white2, white3, white_of}
use Rattle.text.proofs.Table.{Row, row, Readings}
use Rattle.refusal.specs.Outcome.{Outcome, accepted, refused}
use Rattle.decimal.specs.Decimal.{decimal_in, decimal, signed_text}
use Rattle.unit.specs.Units.{rank, spellings, same, one_of, find, low, kelvin, lower, unit_of, present, is_unit, word_len, or_else}
use Rattle.unit.specs.declared.IntervalUnit.{IntervalUnit}
use Rattle.unit.specs.declared.IntervalUnit.TheVariants.{Month, Day, Hour}
use Rattle.amount.specs.Grammar.{precision, whole_fits, scaled}
use Rattle.amount.specs.Scan.{negative, sign_len, point_len, digits_len, amount_len, frac_of, unsigned_of, amount_of}
use Rattle.component.specs.Division.{end_step, unit_step, rest_step, amount_step, step, before, then, divide_by, divide}
use Rattle.component.specs.Spelled.{spelled, unit_for}
use Rattle.rule.specs.Contribution.{times, whole_times, frac_times, contribution, fits, plus}
use Rattle.rule.specs.Answer.{gives, totals, has, twice, on_totals, on_division, month_day_nano}
use Rattle.listing.specs.Names.{name}
use Rattle.listing.specs.Lines.{line, lines, lines_if, listing}

abbrev lists_in : IntervalUnit → String → String → Row (Outcome (List ℕ))
lists_in u t l = row (listing precision u (bytes t)) (accepted (bytes l))

abbrev lists : String → String → Row (Outcome (List ℕ))
lists = lists_in Month

abbrev refuses : String → ℕ → Row (Outcome (List ℕ))
refuses t n = row (listing precision Day (bytes t)) (refused n)

abbrev rows : List (Row (Outcome (List ℕ)))
rows =
    lists "1.5 months -.5 days" "unit=month whole=1 frac=500000000000000\nunit=day whole=0 frac=-500000000000000\n" ∷
    lists "1c 2dec 3y 4mon" "unit=century whole=1 frac=0\nunit=decade whole=2 frac=0\nunit=year whole=3 frac=0\nunit=month whole=4 frac=0\n" ∷
    lists "-1w 2d -3h 4m" "unit=week whole=-1 frac=0\nunit=day whole=2 frac=0\nunit=hour whole=-3 frac=0\nunit=minute whole=4 frac=0\n" ∷
    lists "1s 2ms 3us 4nanosecond"
    "unit=second whole=1 frac=0\nunit=millisecond whole=2 frac=0\nunit=microsecond whole=3 frac=0\nunit=nanosecond whole=4 frac=0\n" ∷
    lists_in Hour "-0 weeKs 2" "unit=week whole=0 frac=0\nunit=hour whole=2 frac=0\n" ∷
    lists_in Day "-0.000000000000001" "unit=day whole=0 frac=-1\n" ∷
    lists "-9223372036854775808.999999999999999 NANOSECONDS" "unit=nanosecond whole=-9223372036854775808 frac=-999999999999999\n" ∷
    lists "0010.50c 007us" "unit=century whole=10 frac=500000000000000\nunit=microsecond whole=7 frac=0\n" ∷
    refuses "1 day " 8 ∷
    refuses "1 day 2" 9 ∷
    refuses "306783378 weeks 0.1 months -2 days" 10 ∷
    []

pub readings : Readings rows
unfolding value run well_formed white1 white2 white3 white_of decimal_in decimal signed_text rank spellings same one_of find low kelvin lower unit_of present is_unit whole_fits negative sign_len point_len digits_len amount_len word_len end_step unit_step rest_step amount_step step before then divide_by divide scaled frac_of unsigned_of amount_of times whole_times frac_times contribution or_else spelled unit_for gives fits plus totals has twice on_totals on_division month_day_nano name line lines lines_if listing
readings = refl
