use Rattle.std.proofs.Common.{rules, arith}
use Rattle.buffer.proofs.Puts.{written}
use Rattle.interval_text.proofs.write_interval.Goals as goal

pub returns : goal.returns
returns c = written c.put_interval-len.ensures.text c.put_interval.ensures.text (omega (arith, c.put_interval.ensures.short)) (search rules)
