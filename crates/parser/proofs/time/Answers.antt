-- `parser::time` meets its contract, by what is known where colons are read and where they are not. Assumes nothing.
use Rattle.std.proofs.Common.{drop, sym}
use lib.Seq.{drop-drop}
use Rattle.std.proofs.lemmas.Option.{cond_some, none-some}
use Rattle.text.proofs.Bools.{by_test}
use Rattle.stamp_text.specs.Answer.{has_colons, time_of}
use Rattle.parser.proofs.time.Goals as goal

pub returns-in-Some : goal.returns-in-Some
unfolding time_of
returns-in-Some c =
    let s = c.args.s.now in
    let r = cond_some (has_colons (drop 11 s)) _ c.in-Some.fields (sym c.in-Some.ensures) in
    rw (r.0, drop-drop 8 11 s) (rw (← r.1) at c.after_seconds.ensures)

pub returns-in-None : goal.returns-in-None
unfolding time_of
returns-in-None c =
    by_test (has_colons (drop 11 c.args.s.now))
    (λ e. absurd (none-some _ (rw e at c.in-None.ensures)))
    (λ e. rw e c.basic.ensures)
