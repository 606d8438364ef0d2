use Rattle.std.proofs.Common.{arith, refl}
use Rattle.buffer.proofs.Puts.{written, too_long}
use Rattle.keypad.proofs.Agreement.{with_text, without_text}
use Rattle.keypad.proofs.keypad_text.Goals as goal

pub returns-then-k-ge-TO_THREE : goal.returns-then-k-ge-TO_THREE
returns-then-k-ge-TO_THREE c = rw (without_text c.args.k (omega (arith, c.if-k-ge-TO_THREE.true))) (record { says = refl; leaves = refl })

pub returns-then-buffer-len : goal.returns-then-buffer-len
returns-then-buffer-len c = rw (with_text c.args.k (omega (arith, c.if-k-ge-TO_THREE.false))) (too_long c.put_text-len.ensures.text c.if-buffer-len.true)

pub returns : goal.returns
returns c =
    rw (with_text c.args.k (omega (arith, c.if-k-ge-TO_THREE.false)))
    (written c.put_text-len.ensures.text c.put_text.ensures.text (omega (arith, c.put_text.ensures.short)) c.if-buffer-len.false)
