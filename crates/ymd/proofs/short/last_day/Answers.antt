-- `ymd::short::last_day` meets its contract, by the laws of the last digits. Assumes nothing.
use mathlib.Core.Path.{sym, ◌∙◌}
use lib.IntN.{pos}
use Rattle.calendar.specs.Calendar.{civil}
use Rattle.ymd.proofs.Shapes.{ended_here}
use Rattle.ymd.proofs.short.last_day.Goals as goal

pub returns-else-no_digits : goal.returns-else-no_digits
returns-else-no_digits c =
    rw (sym c.no_digits.ensures ∙ c.if-no_digits.false) at (ended_here (civil (pos c.args.year) c.args.month) c.args.s.now c.in_ok-day.ensures)
