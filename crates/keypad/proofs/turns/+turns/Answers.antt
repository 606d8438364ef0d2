use Rattle.std.proofs.Common.{◌≡◌, ◌<◌, ◌-◌, ◌/◌, length, take, arith}
use native.Mathlib.Nat.{mod-lt}
use Rattle.keypad.specs.Answer.{ways}
use Rattle.keypad.proofs.Turning.{tenth, some_of_each, amount_put, some_for_each, for_the_others, last_put, unit_put}
use Rattle.keypad.proofs.turns.+turns.Goals as goal

pub amount_turn-nonzero_div-k : goal.amount_turn-nonzero_div-k
amount_turn-nonzero_div-k t c = some_of_each c.args.left c.args.unused.now c.requires.some_left c.requires.all_lists c.requires.one_of_them

pub amount_turn-nonzero_rem-k : goal.amount_turn-nonzero_rem-k
amount_turn-nonzero_rem-k t c = some_of_each c.args.left c.args.unused.now c.requires.some_left c.requires.all_lists c.requires.one_of_them

pub amount_turn-unit_turn-requires : goal.amount_turn-unit_turn-requires
amount_turn-unit_turn-requires t c =
    let s = some_of_each c.args.left c.args.unused.now c.requires.some_left c.requires.all_lists c.requires.one_of_them in
    (omega (arith, c.decreases, c.requires.some_left), (c.requires.some_left, (tenth c.args.left c.args.unused.now c.requires.some_left c.requires.all_lists c.requires.one_of_them, mod-lt c.args.k s)))

pub amount_turn-returns : goal.amount_turn-returns
amount_turn-returns t c = amount_put c.args.left c.args.unused.now c.requires.some_left c.requires.all_lists c.requires.one_of_them c.put-at.ensures c.unit_turn.ensures

pub unit_turn-returns-then-left-eq1 : goal.unit_turn-returns-then-left-eq1
unit_turn-returns-then-left-eq1 t c =
    last_put c.args.left c.args.unused.now c.requires.some_left c.requires.all_lists c.requires.one_of_them c.take_out-unit.result c.if-left-eq1.true c.take_out-unit.ensures.unit
    (rw (c.word.ensures) at c.put-at.ensures)

pub unit_turn-amount_turn-requires : goal.unit_turn-amount_turn-requires
unit_turn-amount_turn-requires t c =
    let l = c.args.unused.now in
    let e : c.args.lists / length l ≡ ways (c.args.left - 1) (length (take (length l - 1) c.take_out-unit.new.unused)) =
    for_the_others c.args.left l c.requires.some_left c.requires.all_lists c.requires.one_of_them (take (length l - 1) c.take_out-unit.new.unused)
    c.take_out-unit.ensures.others in
    let s : 0 < c.args.lists / length l = some_for_each c.args.left l c.requires.some_left c.requires.all_lists c.requires.one_of_them in
    (omega (arith, c.decreases, c.requires.some_left, c.if-left-eq1.false), (omega (arith, c.requires.some_left, c.if-left-eq1.false), (e, mod-lt c.args.k s)))

pub unit_turn-returns : goal.unit_turn-returns
unit_turn-returns t c =
    unit_put c.args.left c.args.unused.now c.requires.some_left c.requires.all_lists c.requires.one_of_them c.take_out-unit.result
    (take (length c.args.unused.now - 1) c.take_out-unit.new.unused) (omega (arith, c.requires.some_left, c.if-left-eq1.false)) c.take_out-unit.ensures.unit
    c.take_out-unit.ensures.others (rw (c.word.ensures) at c.put-at.ensures) c.put-at-2.ensures c.amount_turn.ensures
