use mathlib.Core.Path.{refl}
use Rattle.std.proofs.Common.{rules}
use lib.Dec.{lit<}
use mir.Syntax.{w64}
use Rattle.little_endian.proofs.Standard.{reads}
use Rattle.little_endian.proofs.read_i64.Goals as goal

pub returns : goal.returns
returns c =
    let r = reads w64 (lit< tt) refl refl c.args.bytes c.from_le_bytes.result (search rules) (search rules) c.from_le_bytes.ensures in
    record { computed = r.0; meant = r.1 }
