-- `interval::parse_interval_year_month` meets its contract: the interval of the text, narrowed. Assumes nothing.
use Rattle.std.proofs.lemmas.Result.{err_from_is_err_and}
use Rattle.count.specs.declared.Months.{Months}
use Rattle.rule.specs.Answer.{to_year_months, year_month}
use Rattle.rule.proofs.Demand3.{year_month_meant}
use Rattle.interval.proofs.Narrower.{with_place, narrows, narrows_refused, no_place, same_place}
use Rattle.interval.proofs.parse_interval_year_month.Goals as goal

pub returns-in_err-interval : goal.returns-in_err-interval
unfolding year_month
returns-in_err-interval c = let p = err_from_is_err_and c.from_residual.result c.from_residual.ensures.1 in
    let why = c.in_err-interval.field-0.0 in
    let w = with_place (year_month_meant (narrows_refused to_year_months (λ (m : Months). m.0) why c.in_err-interval.was (rw c.new.ensures at c.parse.ensures.answer))) (same_place why c.in_err-interval.was (rw c.new.ensures at c.parse.ensures.place)) in
    rw (p.1, p.2) (record { computed = w.0; meant = w.1.0; place = w.1.1.0; placed = w.1.1.1 })

pub returns : goal.returns
unfolding year_month
returns c = let q = c.to_year_months.result in
    let w = with_place (year_month_meant (narrows to_year_months (λ (m : Months). m.0) c.in_ok-interval.was (rw c.new.ensures at c.parse.ensures.answer) q c.to_year_months.ensures)) (no_place c.in_ok-interval.was (rw c.new.ensures at c.parse.ensures.place) q) in
    rw c.ok_or.ensures.value (record { computed = w.0; meant = w.1.0; place = w.1.1.0; placed = w.1.1.1 })
