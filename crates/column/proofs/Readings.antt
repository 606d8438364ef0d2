-- Readings of the definitions: document 01's of stamps, dates and times of day that are not marked P, each column at least once, each
-- refusal from 1 to 7, and offsets. Assumes nothing.
use mathlib.Core.Path.{refl}
use mathlib.Core.List.{List, [], ◌∷◌}
use Prim.Native.Nat.{ℕ}
use Prim.Native.String.{String}
use lib.IntN.{ℤ, pos, neg_ℤ}
use Rattle.calendar.specs.Calendar.{span, before}
use Rattle.ymd.specs.Forms.{to_hyphen, extended_ymd, short_day}
use Rattle.date.specs.Answer.{plain_day}
use Rattle.clock.specs.Grammar.{no_digits}
use Rattle.refusal.specs.Outcome.{Outcome, accepted, refused}
use Rattle.text.specs.Digits.{digits, value, run}
use Rattle.utf8.specs.Quoted.{bytes}
use Rattle.text.specs.Trim.{blanks, trim_start, trim_end}
use Rattle.utf8.specs.Utf8.{well_formed}
use Rattle.text.proofs.Table.{Row, row, Readings}
use Rattle.white.specs.WhiteSpace.{white1, white2, white3, white_of}
use Rattle.time.specs.Answer.{time_of_day, time_nanos}
use Rattle.stamp_text.specs.Answer.{day_of, time_of, plain_moment}
use Rattle.clock.specs.Clock.{nanos_of}
use Rattle.offset.specs.Answer.{drop_white, minute_of, numoffset}
use Rattle.column.specs.Columns.{column}
use Rattle.column.specs.declared.Column.{Column}
use Rattle.column.specs.declared.Column.TheVariants.{TimestampNanosecond, TimestampMicrosecond, TimestampMillisecond, TimestampSecond, Time64Nanosecond, Time64Microsecond, Time32Millisecond, Time32Second, Date32, Date64}

-- a column, a text, and what it reads
abbrev reads : Column → String → ℤ → Row (Outcome ℤ)
reads c t z = row (column c (bytes t)) (accepted z)

-- or why it refuses
abbrev refuses : Column → String → ℕ → Row (Outcome ℤ)
refuses c t n = row (column c (bytes t)) (refused n)

abbrev minus : ℕ → ℤ
minus k = neg_ℤ (pos k)

abbrev rows : List (Row (Outcome ℤ))
rows =
    -- document 01, "Readings on either side"
    row (time_nanos (bytes "0:00 AM")) (refused 7) ∷
    refuses Time64Nanosecond " 1234" 7 ∷
    reads Time64Nanosecond "1234" (pos 1_234) ∷
    reads TimestampSecond "1969-12-31T23:59:59.5" (pos 0) ∷
    reads TimestampMillisecond "1969-12-31T23:59:59.0005" (minus 999) ∷
    reads Date64 "1969-12-31T23:59:59.0005" (minus 1_000) ∷
    reads TimestampNanosecond "2262-04-11T23:47:16.854775807" (pos 9_223_372_036_854_775_807) ∷
    refuses TimestampNanosecond "2262-04-11T23:47:16.854775808" 6 ∷
    reads TimestampNanosecond "1677-09-21T00:12:43.145224192" (minus 9_223_372_036_854_775_808) ∷
    refuses TimestampNanosecond "1677-09-21T00:12:43.145224191" 6 ∷
    -- the other columns, trimmed and not
    reads TimestampMicrosecond " 1969-12-31 235959" (minus 1_000_000) ∷
    reads Time64Microsecond " 6:00 pm" (pos 64_800_000_000) ∷
    reads Time32Millisecond "00:00:00.9999" (pos 999) ∷
    reads Time32Second "2147483647" (pos 2_147_483_647) ∷
    refuses Time32Second "2147483648" 7 ∷
    reads Date32 " 1970-01-02" (pos 1) ∷
    refuses Date64 " 1970-01-02" 2 ∷
    reads Date64 "1970-01-02" (pos 86_400_000) ∷
    -- each refusal of a stamp
    row (column TimestampSecond (0xFF ∷ [])) (refused 1) ∷
    refuses TimestampSecond "2023-02-29" 2 ∷
    refuses TimestampSecond "2023-02-28_00:00:00" 3 ∷
    refuses TimestampSecond "1997-01-31 092656+04:00" 4 ∷
    refuses TimestampSecond "2023-02-28T00:00:00 Z" 5 ∷
    refuses TimestampSecond "2023-02-28T00:00:00+24:00" 15 ∷
    -- an offset
    reads TimestampSecond "1970-01-01 010000 +01" (pos 0) ∷
    reads Date32 "1970-01-01T23:59:60-00:01" (pos 1) ∷
    []

pub readings : Readings rows
unfolding digits value run blanks trim_start trim_end well_formed white1 white2 white3 white_of span before day_of time_of plain_moment nanos_of time_of_day to_hyphen extended_ymd short_day plain_day no_digits drop_white minute_of numoffset
readings = refl
