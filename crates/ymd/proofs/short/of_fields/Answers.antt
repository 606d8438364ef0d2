-- `ymd::short::of_fields` meets its contract: a year of four digits fits. Assumes nothing.
use native.Mathlib.Omega.{arith}
use mir.Syntax.{w32}
use mir.Facts.{to_z_pos}
use Rattle.ymd.proofs.short.of_fields.Goals as goal

pub returns : goal.returns
returns c = rw (to_z_pos w32 {n = c.args.year} (omega (arith, c.ranges.year))) at c.days_from_ymd.ensures
