use mathlib.Core.Path.{ap, ◌∙◌}
use Rattle.std.proofs.Common.{rules}
use mir.Syntax.{w32, w64}
use mir.Val.{SFits}
use mir.Facts.{to_z-of_z}
use Rattle.little_endian.specs.Bytes.{bytes_of}
use Rattle.records.proofs.Parts.{month_day_nano_written}
use Rattle.records.proofs.record.write_month_day_nano.Goals as goal

pub returns : goal.returns
returns c =
    let months : SFits w32 c.args.x.months.0 = search rules in
    let days : SFits w32 c.args.x.days.0 = search rules in
    let nanos : SFits w64 c.args.x.nanos.0 = search rules in
    month_day_nano_written c.args.x.months.0 c.args.x.days.0 c.args.x.nanos.0 (c.write_i32.ensures.computed ∙ ap (bytes_of 4) (to_z-of_z months))
    (c.write_i32-2.ensures.computed ∙ ap (bytes_of 4) (to_z-of_z days)) (c.write_i64.ensures.computed ∙ ap (bytes_of 8) (to_z-of_z nanos))
