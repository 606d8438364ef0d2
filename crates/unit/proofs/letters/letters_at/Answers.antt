use native.Mathlib.Omega.{arith}
use Rattle.unit.proofs.Packing.{ends_here, full_here, letter_more}
use Rattle.unit.proofs.letters.letters_at.Goals as goal

pub overflow_add-key : goal.overflow_add-key
overflow_add-key c =
    let M = letter_more c.args.text.now c.args.from c.loop-letter.end c.loop-letter.key c.loop-letter.invariant.0 c.loop-letter.invariant.3 c.loop-letter.invariant.1 c.in-Some.ensures in
    omega (arith, M.most)

pub overflow_add-end : goal.overflow_add-end
overflow_add-end c =
    let M = letter_more c.args.text.now c.args.from c.loop-letter.end c.loop-letter.key c.loop-letter.invariant.0 c.loop-letter.invariant.3 c.loop-letter.invariant.1 c.in-Some.ensures in
    omega (arith, M.inside)

pub loop-letter-smaller : goal.loop-letter-smaller
loop-letter-smaller c =
    let M = letter_more c.args.text.now c.args.from c.loop-letter.end c.loop-letter.key c.loop-letter.invariant.0 c.loop-letter.invariant.3 c.loop-letter.invariant.1 c.in-Some.ensures in
    omega (arith, M.further, M.inside)

pub loop-letter-preserved : goal.loop-letter-preserved
loop-letter-preserved c = let M = letter_more c.args.text.now c.args.from c.loop-letter.end c.loop-letter.key c.loop-letter.invariant.0 c.loop-letter.invariant.3 c.loop-letter.invariant.1 c.in-Some.ensures in
    (omega arith, M.inside, omega (arith, M.most), M.packed)

pub returns-then-key-ge36028797018963968 : goal.returns-then-key-ge36028797018963968
returns-then-key-ge36028797018963968 c = record { start = c.loop-letter.invariant.0; inside = c.loop-letter.invariant.1; packed = c.loop-letter.invariant.3; longest = full_here c.args.text.now c.args.from c.loop-letter.end c.loop-letter.key c.loop-letter.invariant.0 c.loop-letter.invariant.3 c.if-key-ge36028797018963968.true }

pub returns-in_default : goal.returns-in_default
returns-in_default c = record { start = c.loop-letter.invariant.0; inside = c.loop-letter.invariant.1; packed = c.loop-letter.invariant.3; longest = ends_here c.args.text.now c.args.from c.loop-letter.end c.loop-letter.key c.loop-letter.invariant.0 c.loop-letter.invariant.3 c.in_default.ensures }
