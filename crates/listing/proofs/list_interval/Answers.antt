use Rattle.listing.proofs.Longest.{refused_one, no_room, written_out}
use Rattle.listing.proofs.list_interval.Goals as goal

pub returns-in-Err-clause-written : goal.returns-in-Err-clause-written
returns-in-Err-clause-written c = refused_one c.args.config.default_unit c.args.text.now c.args.buffer.now (rw (c.in-Err.is) at c.parse.ensures.answer)

pub returns-then-buffer-len-clause-written : goal.returns-then-buffer-len-clause-written
returns-then-buffer-len-clause-written c =
    no_room c.args.config.default_unit c.args.text.now c.args.buffer.now (rw (c.in_default.is) at c.parse.ensures.answer) c.put_lines-len.ensures c.if-buffer-len.true

pub returns-clause-written : goal.returns-clause-written
returns-clause-written c =
    written_out c.args.config.default_unit c.args.text.now c.args.buffer.now (rw (c.in_default.is) at c.parse.ensures.answer) c.put_lines-len.ensures c.if-buffer-len.false
    c.put_lines.ensures
