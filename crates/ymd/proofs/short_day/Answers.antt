-- `ymd::short_day` meets its contract, by the law of byte 4. Assumes nothing.
use mathlib.Core.Path.{refl, sym, ◌∙◌}
use lib.Dec.{lit<}
use borrow.Author.Tests.{eq-eqb, ne_eqb}
use Rattle.text.proofs.TwoDigits.{sign_test}
use Rattle.ymd.specs.Forms.{short_day}
use Rattle.ymd.proofs.short_day.Goals as goal

pub returns-then-digit-eq-HYPHEN : goal.returns-then-digit-eq-HYPHEN
unfolding short_day
returns-then-digit-eq-HYPHEN c = let s = c.args.s.now in
    c.hyphen_day.ensures ∙ rw (sym (sign_test 0 s 4 253 0x2D (c.type_inv.s 4).fits (lit< tt) refl (rw c.byte_at.ensures at c.digit.ensures)) ∙ eq-eqb c.digit.result 253 c.if-digit-eq-HYPHEN.true)

pub returns-else-digit-eq-HYPHEN : goal.returns-else-digit-eq-HYPHEN
unfolding short_day
returns-else-digit-eq-HYPHEN c = let s = c.args.s.now in
    c.compact_day.ensures ∙ rw (sym (sign_test 0 s 4 253 0x2D (c.type_inv.s 4).fits (lit< tt) refl (rw c.byte_at.ensures at c.digit.ensures)) ∙ ne_eqb c.digit.result 253 c.if-digit-eq-HYPHEN.false)
