-- `unit::words::white_len` meets its contract: a space is white space of one byte. Assumes nothing.
use Rattle.white.proofs.Characters.{space_here}
use Rattle.unit.proofs.words.white_len.Goals as goal

pub returns-then-byte_at-eq32 : goal.returns-then-byte_at-eq32
returns-then-byte_at-eq32 c = space_here c.args.text.now c.args.at c.byte_at.ensures c.if-byte_at-eq32.true
