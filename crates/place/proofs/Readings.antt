-- Readings of the definitions: places of each kind of piece in a first, a middle and a last component, glued and apart, of a unit that comes again,
-- and of each count that does not fit. Assumes nothing.
use mathlib.Core.Path.{refl}
use mathlib.Core.List.{List, [], ◌∷◌, ◌++◌}
use Rattle.std.specs.Prelude.{Option, None, Some}
use Prim.Native.Nat.{ℕ}
use Prim.Native.String.{String}
use Rattle.text.specs.Digits.{value, run}
use Rattle.utf8.specs.Utf8.{encode, well_formed}
use Rattle.white.specs.WhiteSpace.{white1, white2, white3, white_of}
use Rattle.utf8.specs.Quoted.{bytes}
use Rattle.text.proofs.Table.{Row, row, Readings}
use Rattle.unit.specs.Units.{rank, spellings, same, one_of, find, low, kelvin, lower, unit_of, present, is_unit, word_len, or_else}
use Rattle.unit.specs.declared.IntervalUnit.{IntervalUnit}
use Rattle.unit.specs.declared.IntervalUnit.TheVariants.{Year, Month, Hour, Second}
use Rattle.amount.specs.Grammar.{precision, whole_fits, scaled}
use Rattle.amount.specs.Scan.{negative, sign_len, point_len, digits_len, amount_len, frac_of, unsigned_of, amount_of}
use Rattle.component.specs.Spelled.{spelled, unit_for}
use Rattle.component.specs.Fault.{in_amount, piece_len, is_amount}
use Rattle.rule.specs.Contribution.{times, whole_times, frac_times, contribution, fits, plus}
use Rattle.rule.specs.Answer.{gives}
use Rattle.place.specs.Pieces.{bytes_of, component_of}
use Rattle.place.specs.Where.{word_then, words_by, words, is_whole, parted_at, pairs_of, pairs_from, or_later, bad_unit, first_bad, seen_with, none_seen, first_repeat, first_unfit, first_of, place}

-- the place in a text, with months for a unit that is left out
abbrev told : String → ℕ → Row (Option ℕ)
told t p = row (place precision Month (bytes t)) (Some p)

abbrev no_place : String → Row (Option ℕ)
no_place t = row (place precision Month (bytes t)) None

-- the same of bytes, and of another default
abbrev told_in : List ℕ → ℕ → Row (Option ℕ)
told_in t p = row (place precision Month t) (Some p)

abbrev with_default : IntervalUnit → String → ℕ → Row (Option ℕ)
with_default u t p = row (place precision u (bytes t)) (Some p)

abbrev rows : List (Row (Option ℕ))
rows =
    -- 8: no amount; a number may end before its piece does
    told "" 0 ∷
    told "1-2 days" 0 ∷
    told "+1 day" 0 ∷
    told "1.5.5 days" 0 ∷
    told "7. days" 0 ∷
    told "1 day x" 6 ∷
    told "1 day --1x" 6 ∷
    told "1y 2-3d 4h" 3 ∷
    told "1 day 2 hours 0.1234567890123456 days" 14 ∷
    told "1y 9223372036854775808 nanoseconds" 3 ∷
    -- 8: no unit, glued and apart
    told "1.5x" 3 ∷
    told "1day2" 1 ∷
    told "1 2day" 2 ∷
    told "1 day -1.5x 2 dayz" 10 ∷
    told "1 y 2 dayz 3 h" 6 ∷
    told "1 day 5 5" 8 ∷
    -- 8: empty words
    told "1  day" 2 ∷
    told "1 " 2 ∷
    told "1 day " 6 ∷
    told " 1 day" 0 ∷
    told "1 day  2 h" 6 ∷
    -- 8: white space and units of several bytes
    told_in (bytes "1" ++ (encode 0x3000 ++ (bytes "day" ++ (encode 0x2003 ++ (bytes "2 weeKs 3 " ++ encode 0x212A))))) 20 ∷
    told_in (bytes "1 wee" ++ (encode 0x212A ++ (bytes " 2 " ++ (encode 0x00A0 ++ bytes "days")))) 11 ∷
    -- 9: the component that repeats first, also by the default
    told "1 day 2 hours 3 DAYS 4 hours" 14 ∷
    told "1 day 99999999999999 years 2 days" 27 ∷
    told "1 month 2" 8 ∷
    with_default Year "1 year 2" 7 ∷
    with_default Hour "1 day 2 h 3" 10 ∷
    -- 10: a contribution of months, of days, of nanoseconds
    told "1 day 2147483648 months 1 h" 6 ∷
    told "1 y 1 h -2147483649 days" 8 ∷
    told "1 y 2562048 hours 1 d" 4 ∷
    with_default Second "1 day 2 h 9223372037" 10 ∷
    -- 10: a total of each, the first that fails, though a later one would fit
    told "1 day 2147483647 months 1 year -1 decade" 24 ∷
    told "306783378 weeks 0.1 months -2 days" 16 ∷
    told "2147483647 days 0.1 months 2147483648 years" 16 ∷
    told "3 mons -9223372036854775808.9 nanoseconds -1us" 42 ∷
    -- 8 before 9 before 10
    told "1 day 1 day 1 day 2 dayz" 20 ∷
    told "1 day 2147483647 months 1 year -99999999999 days" 31 ∷
    -- accepted, and 1
    no_place "1 year 2 days" ∷
    no_place "306783378 weeks -2 days 0.1 months" ∷
    row (place precision Month (bytes "1 dayz " ++ (0xFF ∷ []))) None ∷
    []

pub readings : Readings rows
unfolding value run well_formed white1 white2 white3 white_of rank spellings same one_of find low kelvin lower unit_of present is_unit whole_fits negative sign_len point_len digits_len amount_len word_len scaled frac_of unsigned_of amount_of times whole_times frac_times contribution or_else spelled unit_for gives fits plus in_amount piece_len is_amount bytes_of component_of word_then words_by words is_whole parted_at pairs_of pairs_from or_later bad_unit first_bad seen_with none_seen first_repeat first_unfit first_of place
readings = refl
