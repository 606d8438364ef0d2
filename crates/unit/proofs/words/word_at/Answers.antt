-- `unit::words::word_at` meets its contract, by the laws of the letters from a place on. Assumes nothing.
use mathlib.Core.Path.{refl, sym, ◌∙◌}
use Rattle.unit.specs.Read.{word_is}
use Rattle.unit.proofs.WordLaws.{past_none, goes_on, no_unit, last_unit, more_unit}
use Rattle.unit.proofs.words.word_at.Goals as goal

pub returns-then-text-at : goal.returns-then-text-at
unfolding word_is
returns-then-text-at c = (past_none c.args.text.now c.args.at c.if-text-at.true, refl)

pub returns-in_default : goal.returns-in_default
unfolding word_is
returns-in_default c = (no_unit c.args.text.now c.args.at c.letters_at-letters.result c.letters_at-letters.ensures c.in_default.ensures, refl)

pub returns-then-text-letters : goal.returns-then-text-letters
unfolding word_is
returns-then-text-letters c = last_unit c.args.text.now c.args.at c.letters_at-letters.result c.letters_at-letters.ensures c.in-Some.ensures c.if-text-letters.true

pub returns-then-white-eq0 : goal.returns-then-white-eq0
unfolding word_is
returns-then-white-eq0 c = (goes_on c.args.text.now c.args.at c.letters_at-letters.result c.letters_at-letters.ensures c.if-text-letters.false (sym c.white_len-white.ensures.0 ∙ c.if-white-eq0.true), refl)

pub returns : goal.returns
unfolding word_is
returns c = more_unit c.args.text.now c.args.at c.letters_at-letters.result c.letters_at-letters.ensures c.in-Some.ensures
    c.white_len-white.ensures.0 c.if-white-eq0.false c.white_len-white.ensures.1 c.if-text-letters.false
