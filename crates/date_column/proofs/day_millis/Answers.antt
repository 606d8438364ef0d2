-- `date_column::day_millis` meets its contract: a day of 10 bytes is near enough. Assumes nothing.
use mathlib.Core.Path.{sym, ap}
use lib.IntN.{ℤ, pos, ◌*ℤ◌}
use native.Mathlib.Omega.{arith}
use mir.Syntax.{w64}
use mir.Val.{SFits}
use mir.Facts.{to_z-of_z}
use Rattle.number.proofs.Zed.{mul_p, mul_n, fits_of}
use Rattle.calendar.proofs.Bounds.{Within}
use Rattle.date.proofs.Bounds.{short_most}
use Rattle.refusal.specs.Outcome.{Outcome, accepted, and_then}
use borrow.Author.Rules.{rules}
use Rattle.date_column.proofs.day_millis.Goals as goal

abbrev in_millis : Outcome ℤ → Outcome ℤ
in_millis o = and_then o (λ z. accepted (z *ℤ pos 86400000))

near_fits : (z : ℤ) → Within 37400000 z → SFits w64 (z *ℤ pos 86400000)
near_fits z h = fits_of w64 (z *ℤ pos 86400000) (omega (arith, mul_p z 86400000, mul_n z 86400000, h.0, h.1))

pub overflow_mul-result : goal.overflow_mul-result
overflow_mul-result c = let z = c.in_ok-parse_date.field-0 in
    rw (to_z-of_z {w = w64} {z = z} (record { sfits = search rules })) (near_fits z (short_most c.args.s.now z (sym c.in_ok-parse_date.ensures) c.requires))

pub returns : goal.returns
returns c = let z = c.in_ok-parse_date.field-0 in
    let f = near_fits z (short_most c.args.s.now z (sym c.in_ok-parse_date.ensures) c.requires) in
    rw (to_z-of_z {w = w64} {z = z} (record { sfits = search rules }), to_z-of_z f) (ap in_millis c.in_ok-parse_date.ensures)
