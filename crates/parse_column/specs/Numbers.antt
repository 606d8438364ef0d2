-- The numbers of the columns, the library's own: 0 TimestampNanosecond to 9 Date64. Assumes nothing.
use Rattle.std.specs.Prelude.{List, [], ◌∷◌, map, ℕ, get_or, Option, None, Some}
use Rattle.column.specs.declared.Column.{Column}
use Rattle.column.specs.declared.Column.TheVariants.{TimestampNanosecond, TimestampMicrosecond, TimestampMillisecond, TimestampSecond, Time64Nanosecond, Time64Microsecond, Time32Millisecond, Time32Second, Date32, Date64}

-- the columns in the order of their numbers
abbrev pub columns : List Column
columns =
    TimestampNanosecond ∷ TimestampMicrosecond ∷ TimestampMillisecond ∷ TimestampSecond ∷
    Time64Nanosecond ∷ Time64Microsecond ∷ Time32Millisecond ∷ Time32Second ∷
    Date32 ∷ Date64 ∷ []

-- the column that a number names
abbrev pub column_numbered : ℕ → Option Column
column_numbered n = get_or (map Some columns) n None
