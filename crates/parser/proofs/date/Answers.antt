-- `parser::date` meets its contract where it reads a date: the numbers and hyphens at their places. Assumes nothing.
use Rattle.std.proofs.Common.{true, eqb, get_or, refl, sym, ◌∙◌, ◌≡◌, ◌+◌, ◌*◌, arith, eq-eqb}
use lib.Dec.{lit<}
use mir.Facts.{to_z_pos}
use mir.Syntax.{w32}
use Rattle.text.proofs.TwoDigits.{two_some, sign_test}
use Rattle.stamp_text.specs.Answer.{day_of}
use Rattle.parser.proofs.date.Goals as goal

pub returns : goal.returns
unfolding day_of
returns c =
    let s = c.args.s.now in
    let century = two_some 0 s 0 c.two.ensures c.in_ok-century.was in
    let year = two_some 0 s 2 c.two-2.ensures c.in_ok-year.was in
    let month = two_some 0 s 5 c.two-3.ensures c.in_ok-month.was in
    let day = two_some 0 s 8 c.two-4.ensures c.in_ok-day_of_month.was in
    let first : eqb (get_or s 4 0) 0x2D ≡ true =
    sym (sign_test 0 s 4 253 0x2D (c.type_inv.s 4).fits (lit< tt) refl c.digit.ensures) ∙ eq-eqb c.digit.result 253 c.if-digit.false in
    let second : eqb (get_or s 7 0) 0x2D ≡ true =
    sym (sign_test 0 s 7 253 0x2D (c.type_inv.s 7).fits (lit< tt) refl c.digit-else-digit.ensures) ∙ eq-eqb c.digit-else-digit.result 253 c.if-digit-2.false in
    c.days_from_ymd.ensures ∙
    rw (to_z_pos w32 {n = c.in_ok-century.century * 100 + c.in_ok-year.year} (omega arith), century.0, year.0, first, month.0, second, day.0, century.1, year.1, month.1, day.1)
