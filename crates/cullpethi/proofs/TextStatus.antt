-- The numbers of the calls that write texts: a listing's is 14, 255 or the reader's, which is on document 01's list (`numbered`). So a status of 0
-- means that the text is written (`written_status_0`, `listed_status_0`, `keypad_status_0`). Assumes nothing.
use mathlib.Core.Path.{◌≡◌, refl, sym, ap}
use mathlib.Core.Logic.{◌↔◌}
use mathlib.Core.List.{List}
use Rattle.std.specs.Prelude.{Option, None, Some}
use Prim.Native.Nat.{ℕ, ◌≤◌, ◌<◌}
use native.Mathlib.Omega.{arith}
use lib.Dec.{leb, ltb}
use lib.ListN.{length}
use borrow.Author.Tests.{leb-true, leb-false, ltb-true, ltb-false}
use Rattle.text.proofs.Bools.{by_test}
use Rattle.amount.specs.Grammar.{precision}
use Rattle.unit.specs.Units.{unit_numbered}
use Rattle.unit.specs.declared.IntervalUnit.{IntervalUnit}
use Rattle.refusal.specs.Outcome.{Outcome, accepted, refused, and_then}
use Rattle.refusal.proofs.Outcomes.{clash, same}
use Rattle.rule.specs.Contribution.{Counts}
use Rattle.rule.specs.Answer.{month_day_nano}
use Rattle.component.specs.Division.{divide}
use Rattle.listing.specs.Lines.{lines_if, listing}
use Rattle.keypad.specs.Answer.{text_of, keypad_text}
use Rattle.keypad.proofs.Agreement.{with_text, without_text}
use Rattle.buffer.specs.Written.{in_room, length_of}
use Rattle.cells.specs.Cells.{Told, ToldText}
use Rattle.cullpethi.specs.Calls.{interval_month_day_nano_config, Accepts, accepts, OnList}
use Rattle.cullpethi.specs.DefaultUnit.{in_unit, listing_in_unit}
use Rattle.cullpethi.proofs.Listed.{listed, range, not_refused}

-- a text that the listing refuses is one that the reader refuses, with that number
reader_refuses : (o : Option IntervalUnit) (t : List ℕ) (n : ℕ) → listing_in_unit o t ≡ refused n → in_unit o t ≡ refused n
unfolding listing
reader_refuses None t n e = ap refused (same e)
reader_refuses (Some u) t n e = back (month_day_nano precision u t) e
  where
    back : (o : Outcome Counts) → and_then o (λ c. accepted (lines_if precision u (divide precision t))) ≡ refused n → o ≡ refused n
    back (accepted c) e = clash (sym e)
    back (refused k) e = ap refused (same e)

-- what a buffer makes of an answer: 14, or what it was
refused_in_room : (room n : ℕ) (o : Outcome (List ℕ)) → in_room room o ≡ refused n → (n ≡ 14 → ⊥) → o ≡ refused n
refused_in_room room n (accepted w) e h = by_test (leb (length w) room) (λ t. clash (sym (rw (t) at e))) (λ t. absurd (h (sym (same (rw (t) at e)))))
refused_in_room room n (refused k) e h = e

-- each refusal but 14 and 255 is on document 01's list
pub numbered : (unit : ℕ) (t : List ℕ) (room n : ℕ) → in_room room (listing_in_unit (unit_numbered unit) t) ≡ refused n → (n ≡ 14 → ⊥) → (n ≡ 255 → ⊥) → OnList n
numbered unit t room n e h g =
    listed (interval_month_day_nano_config unit) t n (reader_refuses (unit_numbered unit) t n (refused_in_room room n (listing_in_unit (unit_numbered unit) t) e h)) g

-- a status of 0 means that the text is written
pub written_status_0 : (w : List ℕ) (status m n : ℕ) (before after : List ℕ) → ToldText (accepted w) status m n before after → (status ≡ 0) ↔ (length w ≤ length before)
written_status_0 w status m n before after t =
    by_test (leb (length w) (length before))
    (λ h. let q = rw (h) at t in (λ s. leb-true (length w) (length before) h, λ l. q.0.0))
    (λ h. let q = rw (h) at t in (λ s. absurd (omega (arith, s, q.0.0)), λ l. absurd (omega (arith, leb-false (length w) (length before) h))))

pub listed_status_0 : (unit : ℕ) (t : List ℕ) (status m n : ℕ) (before after : List ℕ) → ToldText (listing_in_unit (unit_numbered unit) t) status m n before after
    → (status ≡ 0) ↔ Accepts (in_room (length before) (listing_in_unit (unit_numbered unit) t))
listed_status_0 unit t status m n before after told = by (in_room (length before) (listing_in_unit (unit_numbered unit) t)) refl told.0
  where
    by : (o : Outcome (List ℕ)) → in_room (length before) (listing_in_unit (unit_numbered unit) t) ≡ o → Told (length_of o) status m n → (status ≡ 0) ↔ Accepts o
    by (accepted w) e q = (λ s. accepts w, λ a. q.0)
    by (refused k) e q =
        (λ s. absurd (omega (arith, s, q.0, (range (numbered unit t (length before) k e (λ h. omega (arith, s, q.0)) (λ h. omega (arith, s, q.0)))).0)), λ a. absurd (not_refused a refl))

-- of a keypad text: that the number has one, and that there is room for it
pub keypad_status_0 : (k status m n : ℕ) (before after : List ℕ) → ToldText (keypad_text k) status m n before after
    → (status ≡ 0) ↔ ((k < 1_333_320) × (length (text_of k) ≤ length before))
keypad_status_0 k status m n before after t =
    by_test (ltb k 1_333_320)
    (λ h.
    let l = ltb-true k 1_333_320 h in
    let w = written_status_0 (text_of k) status m n before after (rw (with_text k l) at t) in
    (λ s. (l, w.0 s), λ p. w.1 p.1))
    (λ h.
    let l = ltb-false k 1_333_320 h in
    let q = rw (without_text k l) at t in
    (λ s. absurd (omega (arith, s, q.0.0)), λ p. absurd (omega (arith, p.0))))
