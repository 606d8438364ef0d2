use Rattle.std.proofs.Common.{◌≡◌, ℕ, suc, ◌+◌, ◌*◌, ◌-◌, ◌^◌, ◌≤◌, ◌<◌, List, length, get_or, drop, refl, sym, ◌∙◌, arith}
use Rattle.text.specs.Digits.{digit_of, run}
use Rattle.text.proofs.Runs.{run_digits}
use Rattle.clock.specs.Clock.{nanos_of}
use Rattle.clock.proofs.Bounds.{nanos_below}
use Rattle.clock.proofs.Nanos.{behind, led, all_counted, grows_behind, inside, ends_here, goes_on, no_digit_here, digit_here}
use Rattle.clock.proofs.parse_nanos.Goals as goal

-- what all count is less than a second
below : (s : List ℕ) → nanos_of (led s) < 1000000000
below s = nanos_below (led s) (run_digits s)

-- d is the byte at i less 48, and the digits before i make a
module _ (s : List ℕ) (i a : ℕ) {d : ℕ} (fits : get_or s i 0 < 256) (e : d ≡ digit_of (get_or s i 0)) (so_far : behind (9 - i) a (led (drop i s)) ≡ nanos_of (led s)) where
  ended : 10 ≤ d → (a * 10 ^ (9 - i) ≡ nanos_of (led s)) × (run (drop i s) ≡ 0)
  ended g = (sym (no_digit_here s i d fits e (9 - i) a g) ∙ so_far, ends_here s i d fits e g)

  on : i < 9 → d < 10 → (behind (9 - (i + 1)) (a * 10 + d) (led (drop (i + 1) s)) ≡ nanos_of (led s)) × (i < length s) × (run (drop i s) ≡ suc (run (drop (i + 1) s)))
  on l g = (sym (digit_here s i d fits e 9 a l g) ∙ so_far, inside s i d fits e g, goes_on s i d fits e g)

  room : i < 9 → d < 10 → a * 10 + d < 1000000000
  room l g = omega (arith, grows_behind (9 - (i + 1)) (a * 10 + d) (led (drop (i + 1) s)), (on l g).0, below s)

pub loop-i-init : goal.loop-i-init
unfolding nanos_of
loop-i-init c = record { counted = refl; inside = omega arith; run_so_far = omega arith }

pub overflow_mul-result : goal.overflow_mul-result
overflow_mul-result c =
    let e = ended c.args.s.now c.loop-i.i c.loop-i.nanos (c.type_inv.s c.loop-i.i).fits (rw c.byte_at.ensures at c.digit-d.ensures) c.loop-i.invariant.counted c.if-d-ge10.true in
    rw c.scale.ensures (omega (arith, e.0, below c.args.s.now))

pub returns-then-d-ge10 : goal.returns-then-d-ge10
returns-then-d-ge10 c =
    let e = ended c.args.s.now c.loop-i.i c.loop-i.nanos (c.type_inv.s c.loop-i.i).fits (rw c.byte_at.ensures at c.digit-d.ensures) c.loop-i.invariant.counted c.if-d-ge10.true in
    rw c.scale.ensures (e.0, omega (arith, e.0, below c.args.s.now), omega (arith, e.1, c.loop-i.invariant.run_so_far), c.loop-i.invariant.inside)

pub overflow_mul-nanos : goal.overflow_mul-nanos
overflow_mul-nanos c =
    omega (arith, room c.args.s.now c.loop-i.i c.loop-i.nanos (c.type_inv.s c.loop-i.i).fits (rw c.byte_at.ensures at c.digit-d.ensures) c.loop-i.invariant.counted c.loop-i-test.true c.if-d-ge10.false)

pub overflow_add-nanos : goal.overflow_add-nanos
overflow_add-nanos c =
    omega (arith, room c.args.s.now c.loop-i.i c.loop-i.nanos (c.type_inv.s c.loop-i.i).fits (rw c.byte_at.ensures at c.digit-d.ensures) c.loop-i.invariant.counted c.loop-i-test.true c.if-d-ge10.false)

pub loop-i-preserved : goal.loop-i-preserved
loop-i-preserved c =
    let o = on c.args.s.now c.loop-i.i c.loop-i.nanos (c.type_inv.s c.loop-i.i).fits (rw c.byte_at.ensures at c.digit-d.ensures) c.loop-i.invariant.counted c.loop-i-test.true c.if-d-ge10.false in
    record { counted = rw c.from.ensures o.0; inside = omega (arith, o.1); run_so_far = omega (arith, o.2, c.loop-i.invariant.run_so_far) }

pub returns : goal.returns
returns c =
    let s = c.args.s.now in
    let i = c.loop-i.i in
    let z : 9 - i ≡ 0 = omega arith in
    let n : i ≡ 9 = omega arith in
    let q : c.loop-i.nanos ≡ nanos_of (led s) = sym (all_counted c.loop-i.nanos (led (drop i s))) ∙ (rw z at c.loop-i.invariant.counted) in
    let r : c.run_end.result ≡ run s = omega (arith, c.run_end.ensures.0, rw n at c.loop-i.invariant.run_so_far) in
    (q, omega (arith, q, below s), r, c.run_end.ensures.1 (omega (arith, c.loop-i.invariant.inside)))
