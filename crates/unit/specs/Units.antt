-- The units of an interval and their spellings: document 01, "Interval grammar", "Units are the spellings in `IntervalUnit::from_str`, in
-- any ASCII case; U+212A counts as k". PostgreSQL 15, section 8.5.4, has millennium besides and no nanosecond, and leaves abbreviations
-- and plurals open. Assumes nothing.
use Rattle.std.specs.Prelude.{Bool, true, false, cond, ◌&&◌, ◌||◌, List, [], ◌∷◌, ℕ, zero, suc, ◌+◌, eqb, Option, None, Some}
use Prim.Native.String.{String}
use Rattle.text.specs.Digits.{within}
use Rattle.utf8.specs.Quoted.{bytes}
use Rattle.white.specs.WhiteSpace.{white_len}
use Rattle.unit.specs.declared.IntervalUnit.{IntervalUnit}
use Rattle.unit.specs.declared.IntervalUnit.TheVariants.{Century, Decade, Year, Month, Week, Day, Hour, Minute, Second, Millisecond, Microsecond, Nanosecond}

-- a unit's place in the list, from century 0 to nanosecond 11
unfoldable pub rank : IntervalUnit → ℕ
rank Century = 0
rank Decade = 1
rank Year = 2
rank Month = 3
rank Week = 4
rank Day = 5
rank Hour = 6
rank Minute = 7
rank Second = 8
rank Millisecond = 9
rank Microsecond = 10
rank Nanosecond = 11

-- the units, from 0 century to 11 nanosecond
abbrev pub units : List IntervalUnit
units =
    Century ∷ Decade ∷ Year ∷ Month ∷ Week ∷ Day ∷ Hour ∷ Minute ∷ Second ∷ Millisecond ∷ Microsecond ∷ Nanosecond ∷ []

-- what stands at a place of a list, if anything
unfoldable pub place : List IntervalUnit → ℕ → Option IntervalUnit
place [] n = None
place (u ∷ l) zero = Some u
place (u ∷ l) (suc n) = place l n

-- the unit that a number names
abbrev pub unit_numbered : ℕ → Option IntervalUnit
unit_numbered n = place units n

-- a unit and the words that spell it
pub data Row : Type 0 where
  row : IntervalUnit → List String → Row

-- `IntervalUnit::from_str`
unfoldable pub spellings : List Row
spellings =
    row Century ("c" ∷ "cent" ∷ "cents" ∷ "century" ∷ "centuries" ∷ []) ∷
    row Decade ("dec" ∷ "decs" ∷ "decade" ∷ "decades" ∷ []) ∷
    row Year ("y" ∷ "yr" ∷ "yrs" ∷ "year" ∷ "years" ∷ []) ∷
    row Month ("mon" ∷ "mons" ∷ "month" ∷ "months" ∷ []) ∷
    row Week ("w" ∷ "week" ∷ "weeks" ∷ []) ∷
    row Day ("d" ∷ "day" ∷ "days" ∷ []) ∷
    row Hour ("h" ∷ "hr" ∷ "hrs" ∷ "hour" ∷ "hours" ∷ []) ∷
    row Minute ("m" ∷ "min" ∷ "mins" ∷ "minute" ∷ "minutes" ∷ []) ∷
    row Second ("s" ∷ "sec" ∷ "secs" ∷ "second" ∷ "seconds" ∷ []) ∷
    row Millisecond ("ms" ∷ "msec" ∷ "msecs" ∷ "msecond" ∷ "mseconds" ∷ "millisecond" ∷ "milliseconds" ∷ []) ∷
    row Microsecond ("us" ∷ "usec" ∷ "usecs" ∷ "usecond" ∷ "useconds" ∷ "microsecond" ∷ "microseconds" ∷ []) ∷
    row Nanosecond ("nanosecond" ∷ "nanoseconds" ∷ []) ∷ []

-- the same bytes
unfoldable pub same : List ℕ → List ℕ → Bool
same [] [] = true
same [] (c ∷ u) = false
same (b ∷ t) [] = false
same (b ∷ t) (c ∷ u) = eqb b c && same t u

-- one of some words
unfoldable pub one_of : List String → List ℕ → Bool
one_of [] w = false
one_of (s ∷ l) w = same w (bytes s) || one_of l w

-- the unit in whose row a word stands
unfoldable pub find : List Row → List ℕ → Option IntervalUnit
find [] w = None
find (row u words ∷ rows) w = cond (one_of words w) (Some u) (find rows w)

-- a letter A to Z in lower case, any other byte as it is
unfoldable pub low : ℕ → ℕ
low b = cond (within 0x41 b 0x5A) (b + 0x20) b

-- the bytes of U+212A, the Kelvin sign
unfoldable pub kelvin : ℕ → ℕ → ℕ → Bool
kelvin b c d = eqb b 0xE2 && (eqb c 0x84 && eqb d 0xAA)

-- a word in lower case: its ASCII letters, and U+212A as k
unfoldable pub lower : List ℕ → List ℕ
lower [] = []
lower (b ∷ []) = low b ∷ []
lower (b ∷ c ∷ []) = low b ∷ lower (c ∷ [])
lower (b ∷ c ∷ d ∷ t) = cond (kelvin b c d) (0x6B ∷ lower t) (low b ∷ lower (c ∷ d ∷ t))

-- the unit that a word spells, if it spells one
unfoldable pub unit_of : List ℕ → Option IntervalUnit
unit_of w = find spellings (lower w)

-- there is one
unfoldable pub present : Option IntervalUnit → Bool
present None = false
present (Some u) = true

-- the word spells a unit
unfoldable pub is_unit : List ℕ → Bool
is_unit w = present (unit_of w)

-- the unit found, else the default u: "the one spelled, else the default"
unfoldable pub or_else : IntervalUnit → Option IntervalUnit → IntervalUnit
or_else u None = u
or_else u (Some v) = v

-- how many bytes stand before the first white space character: a unit word ends there
unfoldable pub word_len : List ℕ → ℕ
word_len [] = 0
word_len (b ∷ t) = cond (eqb (white_len (b ∷ t)) 0) (suc (word_len t)) 0
