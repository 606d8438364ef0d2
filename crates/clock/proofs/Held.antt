-- A time as it is held, and second 60 as its mark. Assumes nothing.
use mathlib.Core.Path.{◌≡◌, sym, ap, ◌∙◌}
use mathlib.Core.Bool.{true, ◌&&◌}
use mathlib.Core.Logic.{◌↔◌}
use mathlib.Core.List.{List, [], ◌∷◌, ◌++◌, append_assoc}
use Prim.Native.Nat.{ℕ, ◌<◌}
use native.Mathlib.Omega.{arith}
use lib.Dec.{eqb, leb}
use borrow.Author.Tests.{eqb-true, eq-eqb}
use Rattle.text.specs.Digits.{value}
use Rattle.text.proofs.Bools.{and_left, by_test, within_is}
use Rattle.text.proofs.Logic.{both}
use Rattle.text.proofs.DigitLists.{two_value}
use Rattle.clock.specs.Clock.{Clock, in_range, nanos_of, since_midnight, held_clock, Proper, nanos_of_day}
use Rattle.clock.specs.Grammar.{Figures}
use Rattle.clock.specs.Second60.{at_59, unmarked, In59}
use Rattle.clock.specs.declared.NaiveTime.{NaiveTime}
use Rattle.clock.proofs.Figures.{by_two}

-- the mark is a second more, so that a held time has the nanoseconds of what was written
pub held_nanos : (c : Clock) → nanos_of_day (held_clock c) ≡ since_midnight c
held_nanos c =
    by_test (eqb c.second 60)
    (λ e. rw (e, eqb-true c.second 60 e) (omega arith))
    (λ e. rw e (omega arith))

pub held_proper : (c : Clock) → nanos_of c.fraction < 1000000000 → Proper (held_clock c)
held_proper c f = (f, λ e. rw e)

-- the mark is set exactly where the second is 60
pub held_mark : {t : NaiveTime} (c : Clock) → t ≡ held_clock c → (t.leap ≡ true) ↔ (c.second ≡ 60)
held_mark c e = (λ p. eqb-true c.second 60 (sym (ap (λ (x : NaiveTime). x.leap) e) ∙ p), λ p. ap (λ (x : NaiveTime). x.leap) e ∙ eq-eqb c.second 60 p)

-- ---- second 59 in place of second 60

-- the same time, but for the mark
pub held_59 : (c : Clock) → c.second ≡ 60 → held_clock (at_59 c) ≡ unmarked (held_clock c)
held_59 c e = rw (eq-eqb c.second 60 e)

pub in_range_59 : (c : Clock) → in_range c.hour c.minute c.second ≡ true → in_range c.hour c.minute 59 ≡ true
in_range_59 c ok =
    let r = both (leb c.hour 23) (leb c.minute 59 && leb c.second 60) ok in
    rw (r.0, and_left (leb c.minute 59) (leb c.second 60) r.1)

-- ---- in a text

-- a second of two digits
pub second_60 : {s : List ℕ} → Figures 2 s → value 0 s ≡ 60 → s ≡ 0x36 ∷ 0x30 ∷ []
second_60 {s} =
    by_two (λ s. value 0 s ≡ 60 → s ≡ 0x36 ∷ 0x30 ∷ [])
    (λ a b fa fb e.
    let l = within_is 0x30 a 0x39 fa in
    let r = within_is 0x30 b 0x39 fb in
    let p : a ≡ 0x36 = omega (arith, e, two_value a b, l, r) in
    let q : b ≡ 0x30 = omega (arith, e, two_value a b, l, r) in
    rw (p, q))
    s

-- with bytes before it, and behind
pub put_before : (p : List ℕ) {t u : List ℕ} → In59 t u → In59 (p ++ t) (p ++ u)
put_before p x = record {
  before = p ++ x.before;
  behind = x.behind;
  sixty = rw x.sixty (simp append_assoc);
  fifty_nine = rw x.fifty_nine (simp append_assoc);
}

pub put_behind : (q : List ℕ) {t u : List ℕ} → In59 t u → In59 (t ++ q) (u ++ q)
put_behind q x = record {
  before = x.before;
  behind = x.behind ++ q;
  sixty = rw x.sixty (simp append_assoc);
  fifty_nine = rw x.fifty_nine (simp append_assoc);
}

-- hh:mm:ss and what follows, with 59 for the seconds
pub colons_59 : (h m x : List ℕ) {s : List ℕ} → s ≡ 0x36 ∷ 0x30 ∷ [] → In59 (h ++ (0x3A ∷ (m ++ (0x3A ∷ (s ++ x))))) (h ++ (0x3A ∷ (m ++ (0x3A ∷ 0x35 ∷ 0x39 ∷ x))))
colons_59 h m x e = record {
  before = h ++ (0x3A ∷ (m ++ (0x3A ∷ [])));
  behind = x;
  sixty = rw e (simp append_assoc);
  fifty_nine = simp append_assoc;
}
