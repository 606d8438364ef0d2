-- The ten column types of document 01, "Dates and stamps" and "Time of day", and what each reads, as the crate of its family has it.
-- Assumes nothing.
use Rattle.std.specs.Prelude.{List, ℕ, ℤ}
use Rattle.date_column.specs.Answer.{date32, date64}
use Rattle.refusal.specs.Outcome.{Outcome}
use Rattle.stamp_column.specs.Answer.{timestamp_column}
use Rattle.time_column.specs.Answer.{time_column}
use Rattle.column.specs.declared.Column.{Column}
use Rattle.column.specs.declared.Column.TheVariants.{TimestampNanosecond, TimestampMicrosecond, TimestampMillisecond, TimestampSecond, Time64Nanosecond, Time64Microsecond, Time32Millisecond, Time32Second, Date32, Date64}

-- what a column reads
abbrev pub column : Column → List ℕ → Outcome ℤ
column TimestampNanosecond t = timestamp_column 1 t
column TimestampMicrosecond t = timestamp_column 1000 t
column TimestampMillisecond t = timestamp_column 1000000 t
column TimestampSecond t = timestamp_column 1000000000 t
column Time64Nanosecond t = time_column 1 64 t
column Time64Microsecond t = time_column 1000 64 t
column Time32Millisecond t = time_column 1000000 32 t
column Time32Second t = time_column 1000000000 32 t
column Date32 t = date32 t
column Date64 t = date64 t
