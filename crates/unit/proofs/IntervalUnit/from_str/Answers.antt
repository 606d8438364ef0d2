-- `unit::IntervalUnit::from_str` meets its contract: a word is its letters, or goes on behind them and is no unit. Assumes nothing.
use mathlib.Core.Path.{◌∙◌}
use Rattle.unit.proofs.Packing.{word_letters, word_longer}
use Rattle.unit.proofs.IntervalUnit.from_str.Goals as goal

pub returns-then-letters-word : goal.returns-then-letters-word
returns-then-letters-word c = word_longer c.args.word.now c.letters_at-letters.result c.letters_at-letters.ensures c.if-letters-word.true

pub returns : goal.returns
returns c = c.unit_of_key.ensures ∙ word_letters c.args.word.now c.letters_at-letters.result c.letters_at-letters.ensures c.if-letters-word.false
