use mathlib.Core.Path.{refl}
use lib.Dec.{lit<}
use mir.Syntax.{w64}
use Rattle.little_endian.proofs.Standard.{writes}
use Rattle.little_endian.proofs.write_i64.Goals as goal

pub returns : goal.returns
returns c =
    let r = writes w64 (lit< tt) refl refl c.to_le_bytes.result c.args.n c.ranges.n c.to_le_bytes.ensures in
    record { computed = r.0; meant = r.1 }
