-- `cullpethi_cli::caret::put_blanks` is safe and ends: each turn takes a byte of the text or more. Assumes nothing.
use Rattle.std.proofs.Common.{length}
use Rattle.cullpethi_cli.proofs.caret.put_blanks.Given as goal

abbrev pub decreases-loop-rest : goal.decreases-loop-rest
decreases-loop-rest l = length l.rest
