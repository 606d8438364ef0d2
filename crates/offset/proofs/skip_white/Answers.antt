-- `offset::skip_white` meets its contract: where it stops, and one step. Assumes nothing.
use Rattle.std.proofs.Common.{◌≡◌, ◌∙◌, ◌+◌, sym, drop}
use lib.Seq.{drop-drop}
use Rattle.white.specs.WhiteSpace.{white_len}
use Rattle.offset.specs.Answer.{drop_white}
use Rattle.offset.proofs.White.{none_here, one_less}
use Rattle.offset.proofs.skip_white.Goals as goal

pub returns-then-n-eq0 : goal.returns-then-n-eq0
returns-then-n-eq0 c =
    let t = drop c.loop-from.i c.args.s.now in
    sym (none_here t (sym c.white_at-n.ensures.0 ∙ c.if-n-eq0.true)) ∙ c.loop-from.invariant

pub loop-from-preserved : goal.loop-from-preserved
loop-from-preserved c =
    let s = c.args.s.now in
    let i = c.loop-from.i in
    let e = c.white_at-n.ensures.0 in
    let step : drop_white 0 (drop (i + c.white_at-n.result) s) ≡ drop_white 0 (drop i s) =
    rw (e, ← drop-drop (white_len (drop i s)) i s) (sym (one_less (drop i s) (λ z. c.if-n-eq0.false (e ∙ z)))) in
    step ∙ c.loop-from.invariant
