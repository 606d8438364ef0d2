-- `unit::letters::unit_of_key` meets its contract: each arm's keys are those of a row of the spellings. Assumes nothing.
use mathlib.Core.Path.{refl}
use Rattle.unit.specs.Units.{rank, spellings}
use Rattle.unit.specs.Keys.{by_key, key_in, key_of, key_on}
use Rattle.unit.specs.declared.IntervalUnit.TheVariants.{Century, Decade, Year, Month, Week, Day, Hour, Minute, Second, Millisecond, Microsecond, Nanosecond}
use Rattle.unit.proofs.Keying.{keys_of, keys_at, is_that, all_give, by_row, NoneOf, by_none}
use Rattle.unit.proofs.letters.unit_of_key.Goals as goal

pub returns-in-3 : goal.returns-in-3
unfolding rank spellings by_key key_in key_of key_on keys_of keys_at is_that all_give
returns-in-3 c = by_row 0 Century c.args.key refl c.in-3.is

pub returns-in-4259 : goal.returns-in-4259
unfolding rank spellings by_key key_in key_of key_on keys_of keys_at is_that all_give
returns-in-4259 c = by_row 1 Decade c.args.key refl c.in-4259.is

pub returns-in-25 : goal.returns-in-25
unfolding rank spellings by_key key_in key_of key_on keys_of keys_at is_that all_give
returns-in-25 c = by_row 2 Year c.args.key refl c.in-25.is

pub returns-in-13806 : goal.returns-in-13806
unfolding rank spellings by_key key_in key_of key_on keys_of keys_at is_that all_give
returns-in-13806 c = by_row 3 Month c.args.key refl c.in-13806.is

pub returns-in-23 : goal.returns-in-23
unfolding rank spellings by_key key_in key_of key_on keys_of keys_at is_that all_give
returns-in-23 c = by_row 4 Week c.args.key refl c.in-23.is

pub returns-in-4 : goal.returns-in-4
unfolding rank spellings by_key key_in key_of key_on keys_of keys_at is_that all_give
returns-in-4 c = by_row 5 Day c.args.key refl c.in-4.is

pub returns-in-8 : goal.returns-in-8
unfolding rank spellings by_key key_in key_of key_on keys_of keys_at is_that all_give
returns-in-8 c = by_row 6 Hour c.args.key refl c.in-8.is

pub returns-in-13 : goal.returns-in-13
unfolding rank spellings by_key key_in key_of key_on keys_of keys_at is_that all_give
returns-in-13 c = by_row 7 Minute c.args.key refl c.in-13.is

pub returns-in-19 : goal.returns-in-19
unfolding rank spellings by_key key_in key_of key_on keys_of keys_at is_that all_give
returns-in-19 c = by_row 8 Second c.args.key refl c.in-19.is

pub returns-in-435 : goal.returns-in-435
unfolding rank spellings by_key key_in key_of key_on keys_of keys_at is_that all_give
returns-in-435 c = by_row 9 Millisecond c.args.key refl c.in-435.is

pub returns-in-691 : goal.returns-in-691
unfolding rank spellings by_key key_in key_of key_on keys_of keys_at is_that all_give
returns-in-691 c = by_row 10 Microsecond c.args.key refl c.in-691.is

pub returns-in-494178506227140 : goal.returns-in-494178506227140
unfolding rank spellings by_key key_in key_of key_on keys_of keys_at is_that all_give
returns-in-494178506227140 c = by_row 11 Nanosecond c.args.key refl c.in-494178506227140.is

pub returns-in_default : goal.returns-in_default
unfolding spellings key_of key_on keys_of NoneOf
returns-in_default c = by_none c.args.key c.in_default.in_default-own.rest
