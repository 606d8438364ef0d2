use mathlib.Core.Path.{sym, ◌∙◌}
use Rattle.std.proofs.Common.{arith}
use lib.ListN.{length}
use Rattle.records.specs.Answer.{old_record}
use Rattle.records.proofs.Calls.{uneven, too_little_room, refused, accepted}
use Rattle.records.proofs.month_day_nano_to_day_time.Goals as goal

pub returns-then-not-is_empty-clause-computed : goal.returns-then-not-is_empty-clause-computed
returns-then-not-is_empty-clause-computed c =
    uneven old_record 16 8 c.args.from.now c.args.to.now (length c.as_chunks.result.1.now) c.as_chunks.ensures.back_len (sym c.is_empty.ensures ∙ c.if-not-is_empty.true)

pub returns-then-to-records-clause-computed : goal.returns-then-to-records-clause-computed
returns-then-to-records-clause-computed c =
    too_little_room old_record 16 8 c.args.from.now c.args.to.now (length c.as_chunks.result.1.now) c.as_chunks.ensures.back_len
    c.as_chunks.result.0.now c.as_chunks.ensures.front c.as_chunks.ensures.front_len (sym c.is_empty.ensures ∙ c.if-not-is_empty.false) (omega (arith, c.if-to-records.true))

pub returns-in-Some-clause-computed : goal.returns-in-Some-clause-computed
returns-in-Some-clause-computed c =
    refused old_record 16 8 c.args.from.now c.args.to.now (length c.as_chunks.result.1.now) c.as_chunks.ensures.back_len
    c.as_chunks.result.0.now c.as_chunks.ensures.front c.as_chunks.ensures.front_len (sym c.is_empty.ensures ∙ c.if-not-is_empty.false) (omega (arith, c.if-to-records.false))
    c.in-Some.index (sym c.first_that_stays.ensures ∙ c.in-Some.is)

pub returns-clause-computed : goal.returns-clause-computed
returns-clause-computed c =
    accepted old_record 16 8 c.args.from.now c.args.to.now (length c.as_chunks.result.1.now) c.as_chunks.ensures.back_len
    c.as_chunks.result.0.now c.as_chunks.ensures.front c.as_chunks.ensures.front_len (sym c.is_empty.ensures ∙ c.if-not-is_empty.false) (omega (arith, c.if-to-records.false))
    c.store_day_times.new.to (sym c.first_that_stays.ensures ∙ c.in_default.is) c.store_day_times.ensures
