-- `interval::parse_interval_day_time` meets its contract: the interval of the text, narrowed. Assumes nothing.
use Rattle.std.proofs.lemmas.Result.{err_from_is_err_and}
use Rattle.rule.specs.Answer.{to_day_time, day_time}
use Rattle.rule.specs.Meaning.{day_time_of}
use Rattle.interval.specs.declared.IntervalDayTime.{IntervalDayTime}
use Rattle.rule.proofs.Demand3.{day_time_meant}
use Rattle.interval.proofs.Narrower.{with_place, narrows, narrows_refused, no_place, same_place}
use Rattle.interval.proofs.parse_interval_day_time.Goals as goal

pub returns-in_err-interval : goal.returns-in_err-interval
unfolding day_time
returns-in_err-interval c = let p = err_from_is_err_and c.from_residual.result c.from_residual.ensures.1 in
    let why = c.in_err-interval.field-0.0 in
    let w = with_place (day_time_meant (narrows_refused to_day_time (λ (v : IntervalDayTime). day_time_of v.days.0 v.millis.0) why c.in_err-interval.was (rw c.new.ensures at c.parse.ensures.answer))) (same_place why c.in_err-interval.was (rw c.new.ensures at c.parse.ensures.place)) in
    rw (p.1, p.2) (record { computed = w.0; meant = w.1.0; place = w.1.1.0; placed = w.1.1.1 })

pub returns : goal.returns
unfolding day_time
returns c = let q = c.to_day_time.result in
    let w = with_place (day_time_meant (narrows to_day_time (λ (v : IntervalDayTime). day_time_of v.days.0 v.millis.0) c.in_ok-interval.was (rw c.new.ensures at c.parse.ensures.answer) q c.to_day_time.ensures)) (no_place c.in_ok-interval.was (rw c.new.ensures at c.parse.ensures.place) q) in
    rw c.ok_or.ensures.value (record { computed = w.0; meant = w.1.0; place = w.1.1.0; placed = w.1.1.1 })
