-- `total::Interval::plus` meets its contract: three sums, each where it fits. Assumes nothing.
use lib.IntN.{◌+ℤ◌}
use Rattle.rule.specs.Contribution.{plus}
use Rattle.total.proofs.Adding.{three, no_months, no_days, no_nanos}
use Rattle.total.proofs.Interval.plus.Goals as goal

pub returns-in_err-plus : goal.returns-in_err-plus
unfolding plus
returns-in_err-plus c = let x = c.args.self in
    let y = c.args.other in
    rw c.from_residual.ensures (no_months (x.months.0 +ℤ y.months.0) (x.days.0 +ℤ y.days.0) (x.nanos.0 +ℤ y.nanos.0) c.in_err-plus.ensures)

pub returns-in_err-plus-2 : goal.returns-in_err-plus-2
unfolding plus
returns-in_err-plus-2 c = let x = c.args.self in
    let y = c.args.other in
    rw c.from_residual-in_err-plus-2.ensures (no_days (x.months.0 +ℤ y.months.0) (x.days.0 +ℤ y.days.0) (x.nanos.0 +ℤ y.nanos.0) c.in_err-plus-2.ensures)

pub returns-in_err-plus-3 : goal.returns-in_err-plus-3
unfolding plus
returns-in_err-plus-3 c = let x = c.args.self in
    let y = c.args.other in
    rw c.from_residual-in_err-plus-3.ensures (no_nanos (x.months.0 +ℤ y.months.0) (x.days.0 +ℤ y.days.0) (x.nanos.0 +ℤ y.nanos.0) c.in_err-plus-3.ensures)

pub returns : goal.returns
unfolding plus
returns c = let x = c.args.self in
    let y = c.args.other in
    three (x.months.0 +ℤ y.months.0) (x.days.0 +ℤ y.days.0) (x.nanos.0 +ℤ y.nanos.0) c.in_ok-plus.ensures c.in_ok-plus-2.ensures c.in_ok-plus-3.ensures
