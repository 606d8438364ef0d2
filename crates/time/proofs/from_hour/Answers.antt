-- `time::from_hour` meets its contract: one hour digit and a colon. Assumes nothing.
use mathlib.Core.Path.{◌≡◌, refl, sym, ◌∙◌}
use mathlib.Core.Bool.{true}
use mathlib.Core.List.{List}
use Rattle.std.specs.Prelude.{Option}
use Prim.Native.Nat.{ℕ, ◌<◌}
use lib.Dec.{eqb, lit<}
use lib.ListN.{get_or, drop}
use borrow.Author.Tests.{eq-eqb}
use Rattle.text.specs.Digits.{digit_of}
use Rattle.text.proofs.DigitLaws.{is_digit_lem, is_worth}
use Rattle.text.proofs.Parts.{rest}
use Rattle.text.proofs.TwoDigits.{sign}
use Rattle.time.specs.declared.Half.{Half}
use Rattle.time.specs.Answer.{after_hour, from_hour}
use Rattle.time.proofs.from_hour.Goals as goal

-- a is the first byte less 48, and so is the second a colon
one_digit : (s : List ℕ) (p : Option Half) (a : ℕ) → ((i : ℕ) → get_or s i 0 < 256) → a ≡ digit_of (get_or s 0 0) → a < 10 →
    digit_of (get_or s 1 0) ≡ 10 → after_hour p a (drop 2 s) ≡ from_hour p s
one_digit s p a f e l d =
    let colon : eqb (get_or s 1 0) 0x3A ≡ true = sym (sign (get_or s 1 0) 10 0x3A (f 1) (lit< tt) refl) ∙ eq-eqb (digit_of (get_or s 1 0)) 10 d in
    rw (is_digit_lem (get_or s 0 0) a (f 0) e l, colon, is_worth (get_or s 0 0) a (f 0) e l)

pub returns-in-len2-up : goal.returns-in-len2-up
returns-in-len2-up c = rw (rest c.args.s.now 2) at c.after_hour.ensures ∙
    one_digit c.args.s.now c.args.half c.digit-in-len2-up.result (λ i. (c.type_inv.s i).fits) c.digit-in-len2-up.ensures
    (rw (c.digit.ensures, ← c.digit-in-len2-up.ensures) at c.if-digit-lt10.true) (rw c.digit-then-digit-lt10.ensures at c.if-digit-eq-COLON.true)
