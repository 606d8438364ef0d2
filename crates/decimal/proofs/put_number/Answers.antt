use mir.Facts.{to_z-of_z}
use Rattle.decimal.proofs.Recursion.{plain_put, minus_put}
use Rattle.decimal.proofs.put_number.Goals as goal
use Rattle.decimal.proofs.put_number.Goals.{then-z-lt0, else-z-lt0}

pub returns : goal.returns
returns c =
    let r = to_z-of_z c.ranges.z in
    elim c.if-z-lt0.branch [
      | then-z-lt0 w ↦ minus_put c.args.z r w.if-z-lt0.true c.unsigned_abs.ensures.value w.put-from.ensures (rw (w.buffer-is, w.from-is) at c.put_digits.ensures)
      | else-z-lt0 w ↦ plain_put c.args.z r w.if-z-lt0.false c.unsigned_abs.ensures.value (rw (w.buffer-is, w.from-is) at c.put_digits.ensures)
    ]
