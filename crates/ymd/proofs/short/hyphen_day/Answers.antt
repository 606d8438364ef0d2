-- `ymd::short::hyphen_day` meets its contract, by the laws of the month. Assumes nothing.
use mathlib.Core.Path.{◌≡◌, ◌∙◌}
use native.Mathlib.Omega.{arith}
use lib.ListN.{drop, get_or-eq_default}
use lib.IntN.{pos}
use borrow.Author.Tests.{eq-eqb, ne_eqb}
use Rattle.text.proofs.Parts.{rest}
use Rattle.ymd.specs.Forms.{last_day}
use Rattle.ymd.proofs.Shapes.{month_here, no_month, after_year}
use Rattle.ymd.proofs.short.hyphen_day.Goals as goal

pub returns-in_err-month : goal.returns-in_err-month
returns-in_err-month c = let s = c.args.s.now in
    let u : c.in_ok-get.field-0.now ≡ drop 5 s = c.in_ok-get.ensures.lookup.0.2 ∙ rest s 5 in
    c.from_residual-in_err-month.ensures ∙ no_month (last_day (pos c.in_ok-year.year)) s (rw u at c.in_err-month.ensures) ∙ after_year s c.in_ok-year.ensures

pub returns-in-len1-up : goal.returns-in-len1-up
returns-in-len1-up c = let s = c.args.s.now in
    let u : c.in_ok-get.field-0.now ≡ drop 5 s = c.in_ok-get.ensures.lookup.0.2 ∙ rest s 5 in
    rw (rest c.in_ok-month.rest.now 1) at c.last_day.ensures ∙
    rw (← c.digit.ensures, eq-eqb c.digit.result 253 c.if-digit.true) at (month_here (last_day (pos c.in_ok-year.year)) s (λ i. (c.type_inv.s i).fits) (rw u at c.in_ok-month.ensures)) ∙
    after_year s c.in_ok-year.ensures

pub returns-in_default : goal.returns-in_default
returns-in_default c = let s = c.args.s.now in
    let u : c.in_ok-get.field-0.now ≡ drop 5 s = c.in_ok-get.ensures.lookup.0.2 ∙ rest s 5 in
    rw (get_or-eq_default c.in_ok-month.rest.now 0 {n = 0} (omega (arith, c.in_default.len_below))) at
    (month_here (last_day (pos c.in_ok-year.year)) s (λ i. (c.type_inv.s i).fits) (rw u at c.in_ok-month.ensures)) ∙
    after_year s c.in_ok-year.ensures

pub returns-in_default-2 : goal.returns-in_default-2
returns-in_default-2 c = let s = c.args.s.now in
    let u : c.in_ok-get.field-0.now ≡ drop 5 s = c.in_ok-get.ensures.lookup.0.2 ∙ rest s 5 in
    rw (← c.digit.ensures, ne_eqb c.digit.result 253 c.if-digit.false) at
    (month_here (last_day (pos c.in_ok-year.year)) s (λ i. (c.type_inv.s i).fits) (rw u at c.in_ok-month.ensures)) ∙
    after_year s c.in_ok-year.ensures
