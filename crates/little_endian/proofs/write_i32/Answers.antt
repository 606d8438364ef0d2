use mathlib.Core.Path.{refl}
use lib.Dec.{lit<}
use mir.Syntax.{w32}
use Rattle.little_endian.proofs.Standard.{writes}
use Rattle.little_endian.proofs.write_i32.Goals as goal

pub returns : goal.returns
returns c =
    let r = writes w32 (lit< tt) refl refl c.to_le_bytes.result c.args.z c.ranges.z c.to_le_bytes.ensures in
    record { computed = r.0; meant = r.1 }
