-- `amount::parts::unsigned_at` meets its contract, by the laws of a whole part with its sign. Assumes nothing.
use mathlib.Core.Path.{refl, sym, ◌∙◌}
use Prim.Native.Nat.{◌+◌}
use native.Mathlib.Omega.{arith}
use lib.ListN.{take, drop, length-drop}
use Rattle.text.specs.Digits.{value, run}
use Rattle.amount.specs.Read.{amount_is}
use Rattle.amount.proofs.Amounts.{rest_is, whole_fits_lem, whole_over, unfit, no_amount, bare, point_at}
use Rattle.amount.proofs.parts.unsigned_at.Goals as goal

pub fraction_at-requires : goal.fraction_at-requires
fraction_at-requires c = let s = c.args.text.now in
    let D = rw (rest_is s c.args.from) at c.whole-digits.ensures in
    let W = whole_fits_lem c.args.neg (value 0 (take (run (drop c.args.from c.args.text.now)) (drop c.args.from c.args.text.now))) D.value_is c.in-Some.ensures in
    point_at s c.args.at c.args.from c.args.neg c.requires.0 c.requires.1 W.1 (c.args.from + c.whole-digits.result.len) (omega (arith, D.len_is)) (sym c.byte_at.ensures ∙ c.if-byte_at-eq46.true) W.0

pub returns-in-None : goal.returns-in-None
unfolding amount_is
returns-in-None c = let D = rw (rest_is c.args.text.now c.args.from) at c.whole-digits.ensures in
    (unfit c.args.text.now c.args.at c.args.from c.args.neg c.requires.0 c.requires.1 (whole_over c.args.neg (value 0 (take (run (drop c.args.from c.args.text.now)) (drop c.args.from c.args.text.now))) D.value_is c.in-None.ensures), refl)

pub returns-in-Some-2 : goal.returns-in-Some-2
unfolding amount_is
returns-in-Some-2 c = let D = rw (rest_is c.args.text.now c.args.from) at c.whole-digits.ensures in
    let W = whole_fits_lem c.args.neg (value 0 (take (run (drop c.args.from c.args.text.now)) (drop c.args.from c.args.text.now))) D.value_is c.in-Some.ensures in
    (no_amount c.args.text.now c.args.at c.args.from c.args.neg c.requires.0 c.requires.1 W.1 (c.args.from + c.whole-digits.result.len) (omega (arith, D.len_is)) (λ e. c.if-byte_at-eq46.false (c.byte_at.ensures ∙ e)) c.if-next-from.true, refl)

pub returns-in-Some-3 : goal.returns-in-Some-3
unfolding amount_is
returns-in-Some-3 c = let D = rw (rest_is c.args.text.now c.args.from) at c.whole-digits.ensures in
    let W = whole_fits_lem c.args.neg (value 0 (take (run (drop c.args.from c.args.text.now)) (drop c.args.from c.args.text.now))) D.value_is c.in-Some.ensures in
    bare c.args.text.now c.args.at c.args.from c.args.neg c.requires.0 c.requires.1 W.1 (c.args.from + c.whole-digits.result.len) (omega (arith, D.len_is)) (λ e. c.if-byte_at-eq46.false (c.byte_at.ensures ∙ e)) c.if-next-from.false (omega (arith, D.inside, length-drop c.args.from c.args.text.now)) W.0
