-- `text::trim::trim_pre_and_post_whitespace` meets its contract: at an end with a digit there is nothing to trim. Assumes nothing.
use Rattle.std.proofs.Common.{◌-◌, length, ap, ◌∙◌, rules}
use Rattle.text.specs.Trim.{trim_end}
use Rattle.text.proofs.TrimLaws.{start_is, end_is, digit_kept, start_only, end_only, neither, nothing}
use Rattle.text.proofs.trim.trim_pre_and_post_whitespace.Goals as goal

pub returns-in_default : goal.returns-in_default
returns-in_default c = nothing c.args.s.now (search rules)

pub returns-in-true-true : goal.returns-in-true-true
returns-in-true-true c = end_is c.trim_ascii_end.ensures.value ∙ ap trim_end (start_is c.trim_ascii_start.ensures.value)

pub returns-in-true-false : goal.returns-in-true-false
returns-in-true-false c = start_is c.trim_ascii_start-in-true-false.ensures.value ∙ start_only c.args.s.now (search rules) (digit_kept _ _ (c.type_inv.s (length c.args.s.now - 1)).fits c.digit-suffix.ensures (search rules))

pub returns-in-false-true : goal.returns-in-false-true
returns-in-false-true c = end_is c.trim_ascii_end-in-false-true.ensures.value ∙ end_only c.args.s.now (digit_kept _ _ (c.type_inv.s 0).fits c.digit-prefix.ensures (search rules))

pub returns-in-false-false : goal.returns-in-false-false
returns-in-false-false c =
    neither c.args.s.now (search rules)
    (digit_kept _ _ (c.type_inv.s 0).fits c.digit-prefix.ensures (search rules))
    (digit_kept _ _ (c.type_inv.s (length c.args.s.now - 1)).fits c.digit-suffix.ensures (search rules))
