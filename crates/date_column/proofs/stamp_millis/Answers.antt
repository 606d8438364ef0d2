-- `date_column::stamp_millis` meets its contract: a stamp's day is near enough. Assumes nothing.
use mathlib.Core.Path.{sym}
use Rattle.stamp_text.proofs.Agreement.{agrees}
use Rattle.stamp_text.proofs.Bounds.{moment_most}
use Rattle.number.proofs.Zed.{near}
use Rattle.date_column.proofs.stamp_millis.Goals as goal

pub timestamp_millis-requires : goal.timestamp_millis-requires
timestamp_millis-requires c =
    let m = c.in_ok-string_to_datetime.field-0 in
    near m.day 4400000 (moment_most ((agrees c.args.s.now m).1 (sym c.in_ok-string_to_datetime.ensures))).0
