-- `parser::after_seconds` meets its contract behind a point and digits. Assumes nothing.
use Rattle.std.proofs.Common.{arith, sym, ◌∙◌, drop, ◌+◌}
use Rattle.text.proofs.Parts.{rest}
use Rattle.parser.proofs.Fractions.{timed_at_lem, fraction}
use Rattle.parser.proofs.after_seconds.Goals as goal

pub returns : goal.returns
returns c = let s = c.args.s.now in let t = c.args.t in
    let f = c.parse_nanos-fraction in
    timed_at_lem t.hour t.minute t.second f.result.nanos (drop (20 + f.result.digits) s) f.ensures.1 (sym c.in_ok-time.was ∙ c.from_hms_nano-2.ensures) ∙
    fraction s (c.type_inv.s 19).fits (rw c.byte_at.ensures at c.digit.ensures) c.if-digit-ne-POINT.false t.hour t.minute t.second
    (rw (rest s 20) at f.ensures.2) (λ e. omega (arith, e)) (rw (rest s 20) at f.ensures.0)
