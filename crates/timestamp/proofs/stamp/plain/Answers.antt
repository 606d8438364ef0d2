-- `timestamp::stamp::plain` meets its contract: the day of a date is near enough for an offset to be taken off. Assumes nothing.
use Rattle.std.proofs.Common.{◌≡◌, sym, ◌∙◌, ◌≤◌, Some, rules}
use lib.Signed.{mag}
use Rattle.stamp_text.specs.Answer.{day_of}
use Rattle.stamp_text.proofs.Bounds.{day_within}
use Rattle.number.proofs.Zed.{near}
use Rattle.timestamp.proofs.stamp.plain.Goals as goal

pub after_date-requires : goal.after_date-requires
after_date-requires c =
    let z = c.in_ok-day.day in
    let e : day_of c.args.s.now ≡ Some z = sym c.date.ensures ∙ search rules in
    let m : mag z ≤ 4400000 = near z 4400000 (day_within c.args.s.now z e) in
    search rules
