-- `interval::parse_interval_month_day_nano_config` meets its contract: what is computed is what the text means. Assumes nothing.
use Rattle.rule.proofs.Demand3.{meant}
use Rattle.interval.proofs.Narrower.{with_place}
use Rattle.interval.proofs.parse_interval_month_day_nano_config.Goals as goal

pub returns : goal.returns
returns c =
    let w = with_place (meant c.parse.ensures.answer) c.parse.ensures.place in
    record { computed = w.0; meant = w.1.0; place = w.1.1.0; placed = w.1.1.1 }
