-- The loop's invariant: the first that stays is the first of those from here on. Assumes nothing.
use Rattle.std.specs.Prelude.{◌≡◌, drop}
use Rattle.records.specs.Answer.{old_record}
use Rattle.records.specs.Helpers.{first_that_stays_from}
use Rattle.records.proofs.slices.first_that_stays.Given as goal

abbrev pub invariant-loop-i : goal.invariant-loop-i
invariant-loop-i l = first_that_stays_from old_record 0 l.records ≡ first_that_stays_from old_record l.i (drop l.i l.records)
