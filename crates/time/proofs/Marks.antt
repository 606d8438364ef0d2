-- The mark of a time of day: it is set exactly where the second that the text writes is 60, and without it the same text with 59 in place of
-- 60 is the same time. Assumes nothing.
use mathlib.Core.Path.{◌≡◌, refl, sym, ◌∙◌}
use mathlib.Core.Bool.{true}
use mathlib.Core.Logic.{◌↔◌}
use mathlib.Core.List.{List, [], ◌∷◌, ◌++◌}
use Rattle.std.specs.Prelude.{Some}
use Prim.Native.Nat.{ℕ}
use native.Mathlib.Omega.{arith}
use Rattle.text.specs.Digits.{value}
use Rattle.text.proofs.Bools.{by_test}
use Rattle.text.proofs.Logic.{none_some}
use Rattle.clock.specs.Clock.{Clock, in_range, held_clock, Proper}
use Rattle.clock.specs.declared.NaiveTime.{NaiveTime}
use Rattle.clock.proofs.Figures.{two_figures}
use Rattle.clock.specs.Second60.{at_59, unmarked, In59}
use Rattle.clock.proofs.Held.{held_mark, held_59, held_proper, in_range_59, second_60, colons_59, put_behind}
use Rattle.time.specs.Grammar.{Written, minutes, seconds, TimeOfDay, full}
use Rattle.time.specs.Grammar as Grammar
use Rattle.time.specs.Answer.{time_of_day}
use Rattle.time.proofs.Agreement.{time_read, complete, sound}
use Rattle.time.proofs.Bounds.{time_most}

-- an accepted text is the time that it writes, in range
pub its_time : {t : List ℕ} {c : Clock} {x : NaiveTime} → TimeOfDay t c → time_of_day t ≡ Some x → (x ≡ held_clock c) × (in_range c.hour c.minute c.second ≡ true)
its_time {c = c} {x = x} d e =
    by_test (in_range c.hour c.minute c.second)
    (λ ok. let q : Some x ≡ Some (held_clock c) = sym e ∙ complete d ok in (cc, ok))
    (λ no. none_some (sym (rw no at (time_read d)) ∙ e))

-- nanoseconds below 1,000,000,000, and with the mark second 59
pub proper : (t : List ℕ) {x : NaiveTime} → time_of_day t ≡ Some x → Proper x
proper t {x} e = let y = sound t x e in rw (← y.held_as) (held_proper y.fields (time_most y.time))

-- the mark is set exactly where the written second is 60
pub mark : {t : List ℕ} {c : Clock} {x : NaiveTime} → TimeOfDay t c → time_of_day t ≡ Some x → (x.leap ≡ true) ↔ (c.second ≡ 60)
mark {c = c} d e = held_mark c (its_time d e).0

-- a text that writes the same but for second 59 is the same time, without the mark
pub same_time : {t u : List ℕ} {c : Clock} {x : NaiveTime} → TimeOfDay t c → c.second ≡ 60 → TimeOfDay u (at_59 c) → time_of_day t ≡ Some x → time_of_day u ≡ Some (unmarked x)
same_time {c = c} d e r p = let y = its_time d p in rw (y.0, ← held_59 c e) (complete r (in_range_59 c y.1))

-- ---- and the same text with 59 in place of 60 is such a text

record Written59 (t : List ℕ) (c : Clock) : Type 0 where
  bytes : List ℕ
  same : In59 t bytes
  written : Written bytes (at_59 c)

written_59 : {t : List ℕ} {c : Clock} → Written t c → c.second ≡ 60 → Written59 t c
unfolding value
written_59 (minutes h m q r) e = absurd (omega (arith, e))
written_59 (seconds h m s x f q r u v) e = record {
  bytes = h ++ (0x3A ∷ (m ++ (0x3A ∷ 0x35 ∷ 0x39 ∷ x)));
  same = colons_59 h m x (second_60 u e);
  written = seconds h m (0x35 ∷ 0x39 ∷ []) x f q r (two_figures 0x35 0x39 refl refl) v;
}

pub record Beside (t : List ℕ) (c : Clock) : Type 0 where
  pub text : List ℕ
  pub same : In59 t text
  pub time : TimeOfDay text (at_59 c)

pub with_59 : {t : List ℕ} {c : Clock} → TimeOfDay t c → c.second ≡ 60 → Beside t c
with_59 (full w) e = let y = written_59 w e in record { text = y.bytes; same = y.same; time = full y.written }
with_59 (Grammar.am a b w p q l k) e =
    let y = written_59 w e in
    record { text = y.bytes ++ (0x20 ∷ a ∷ b ∷ []); same = put_behind (0x20 ∷ a ∷ b ∷ []) y.same; time = Grammar.am a b y.written p q l k }
with_59 (Grammar.pm a b w p q l k) e =
    let y = written_59 w e in
    record { text = y.bytes ++ (0x20 ∷ a ∷ b ∷ []); same = put_behind (0x20 ∷ a ∷ b ∷ []) y.same; time = Grammar.pm a b y.written p q l k }
