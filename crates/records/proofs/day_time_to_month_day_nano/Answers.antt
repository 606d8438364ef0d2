use mathlib.Core.Path.{sym, ◌∙◌}
use Rattle.std.proofs.Common.{arith}
use lib.ListN.{length}
use Rattle.records.specs.Answer.{new_record}
use Rattle.records.proofs.Calls.{none_stays, uneven, too_little_room, accepted}
use Rattle.records.proofs.day_time_to_month_day_nano.Goals as goal

pub returns-then-not-is_empty-clause-computed : goal.returns-then-not-is_empty-clause-computed
returns-then-not-is_empty-clause-computed c =
    uneven new_record 8 16 c.args.from.now c.args.to.now (length c.as_chunks.result.1.now) c.as_chunks.ensures.back_len (sym c.is_empty.ensures ∙ c.if-not-is_empty.true)

pub returns-then-to-records-clause-computed : goal.returns-then-to-records-clause-computed
returns-then-to-records-clause-computed c =
    too_little_room new_record 8 16 c.args.from.now c.args.to.now (length c.as_chunks.result.1.now) c.as_chunks.ensures.back_len
    c.as_chunks.result.0.now c.as_chunks.ensures.front c.as_chunks.ensures.front_len (sym c.is_empty.ensures ∙ c.if-not-is_empty.false) (omega (arith, c.if-to-records.true))

pub returns-clause-computed : goal.returns-clause-computed
returns-clause-computed c =
    accepted new_record 8 16 c.args.from.now c.args.to.now (length c.as_chunks.result.1.now) c.as_chunks.ensures.back_len
    c.as_chunks.result.0.now c.as_chunks.ensures.front c.as_chunks.ensures.front_len (sym c.is_empty.ensures ∙ c.if-not-is_empty.false) (omega (arith, c.if-to-records.false))
    c.store_month_day_nanos.new.to (none_stays 0 c.as_chunks.result.0.now) c.store_month_day_nanos.ensures
