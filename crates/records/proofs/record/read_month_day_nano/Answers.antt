use mathlib.Core.Path.{◌∙◌}
use Rattle.std.proofs.Common.{rules}
use mir.Syntax.{w32, w64}
use mir.Val.{SFits}
use mir.Facts.{to_z-of_z}
use Rattle.records.proofs.Parts.{month_day_nano_read}
use Rattle.records.proofs.record.read_month_day_nano.Goals as goal

pub returns : goal.returns
returns c =
    let months : SFits w32 c.read_i32.result = search rules in
    let days : SFits w32 c.read_i32-2.result = search rules in
    let nanos : SFits w64 c.read_i64.result = search rules in
    month_day_nano_read c.args.record.now (search rules) (to_z-of_z months ∙ c.read_i32.ensures.computed) (to_z-of_z days ∙ c.read_i32-2.ensures.computed)
    (to_z-of_z nanos ∙ c.read_i64.ensures.computed)
