-- `calendar::days_from_ymd` meets its contract, by the laws of years, months and dates. Assumes nothing.
use Rattle.std.proofs.Common.{◌≡◌, ℕ, ℤ, pos, ◌+◌, ◌-◌, ◌*◌, ◌/◌, ◌%◌, ◌^◌, ◌<◌, ◌+ℤ◌, arith}
use lib.Dec.{eqb, lit<}
use mir.Syntax.{w32}
use mir.Val.{SFits}
use mir.Facts.{to_z-of_z}
use Rattle.number.proofs.Ranges.{rd}
use Rattle.calendar.specs.Calendar.{leap, year_days, month_days, before}
use Rattle.calendar.proofs.Years.{Counts, counts, by_cycle, epoch}
use Rattle.calendar.proofs.Months.{next_before}
use Rattle.calendar.proofs.Dates.{too_late, is_leap, number, difference}
use Rattle.calendar.proofs.days_from_ymd.Goals as goal

-- what the functions of the cycle ensure, said of year y of n, and of its month m, which starts after b days and the next after x
known :
    {y : ℤ} {n days b x : ℕ} →
    (m : ℕ) →
    SFits w32 y →
    pos n ≡ rd w32 y +ℤ pos 2147484000 →
    days ≡ year_days (pos (n % 400)) →
    b ≡ before (eqb days 366) m →
    x ≡ before (eqb days 366) (m + 1) →
    Counts n y × (b ≡ before (leap y) m) × (x ≡ b + month_days (leap y) m)
known {y} {n} {days} {b} m f told e p q =
    let count : Counts n y = counts n y (rw (to_z-of_z f) at told) in
    let is : eqb days 366 ≡ leap y = is_leap y n count days e in
    let start : b ≡ before (leap y) m = rw is at p in
    (count, start, omega (arith, start, rw is at q, next_before (leap y) m))

pub overflow_sub-next : goal.overflow_sub-next
overflow_sub-next c =
    let k = known c.args.month c.ranges.year c.counted-n.ensures.0 c.year_of_cycle-y.ensures.1 c.days_before-before.ensures c.days_before-next.ensures in
    omega (arith, k.2)

pub returns-then-next-before : goal.returns-then-next-before
returns-then-next-before c =
    let k = known c.args.month c.ranges.year c.counted-n.ensures.0 c.year_of_cycle-y.ensures.1 c.days_before-before.ensures c.days_before-next.ensures in
    too_late c.args.year c.args.month c.args.day_of_month (omega (arith, k.2, c.if-next-before.true))

pub returns : goal.returns
returns c =
    let n = c.counted-n.result in
    let k = known c.args.month c.ranges.year c.counted-n.ensures.0 c.year_of_cycle-y.ensures.1 c.days_before-before.ensures c.days_before-next.ensures in
    let fits : n / 400 * 146097 + c.year_of_cycle-y.result.start + c.days_before-before.result + (c.args.day_of_month - 1) < 2 ^ 63 = omega arith in
    rw (to_z-of_z (difference fits 784353144398 (lit< tt)))
    (search (
      number c.args.year n k.0 c.args.month c.args.day_of_month fits
          (omega (arith, by_cycle n, c.year_of_cycle-y.ensures.0, k.1))
          c.if-day_of_month-lt1.false
          (omega (arith, k.2, c.if-next-before.false)),
      epoch,
    ))
