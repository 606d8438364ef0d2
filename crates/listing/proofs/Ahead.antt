-- A turn of the loop that writes lines: those written, and those of what is left of the text, are the lines of the whole. Assumes nothing.
use mathlib.Core.Path.{◌≡◌, refl, sym, ap, ◌∙◌}
use mathlib.Core.List.{List, [], ◌∷◌, ◌++◌, append_assoc, append-nil}
use Rattle.std.specs.Prelude.{Option, None, Some}
use Prim.Native.Nat.{ℕ, ◌+◌, ◌-◌, ◌^◌, ◌<◌}
use native.Mathlib.Omega.{arith}
use lib.ListN.{length, drop}
use Rattle.amount.specs.Grammar.{precision}
use Rattle.amount.specs.Read.{value_of}
use Rattle.amount.specs.Scan.{amount_of}
use Rattle.amount.specs.declared.held.IntervalAmount.{IntervalAmount}
use Rattle.amount.proofs.AmountLaws.{amount_value}
use Rattle.buffer.specs.Buffer.{Put}
use Rattle.buffer.proofs.Puts.{then, no_bytes}
use Rattle.component.specs.Grammar.{Component}
use Rattle.component.specs.Division.{step, bad, before, divide}
use Rattle.component.specs.Spelled.{unit_for}
use Rattle.component.specs.Read.{Holds, LastIs, MoreIs}
use Rattle.component.proofs.Steps.{OneMore, at_bad, at_last, at_more}
use Rattle.text.proofs.Logic.{none_some}
use Rattle.unit.specs.Units.{or_else}
use Rattle.unit.specs.declared.IntervalUnit.{IntervalUnit}
use Rattle.listing.specs.Lines.{line, lines}

-- of a text s with the division d: the bytes w are written from `from` on, and with the lines of the division from `at` on they are those of d
pub data Ahead (u : IntervalUnit) (s : List ℕ) (d : List Component) (at : ℕ) (start now : List ℕ) (end : ℕ) : Type 0 where
  ahead : (w : List ℕ) (e : List Component) → divide precision (drop at s) ≡ Some e → w ++ lines precision u e ≡ lines precision u d → Put 0 w start now end
      → Ahead u s d at start now end

-- whatever the division
abbrev pub Goes : IntervalUnit → List ℕ → ℕ → List ℕ → List ℕ → ℕ → Type 0
Goes u s at start now end = (d : List Component) → divide precision s ≡ Some d → Ahead u s d at start now end

pub starts : (u : IntervalUnit) (s b : List ℕ) → length b < 2 ^ 64 → Goes u s 0 b b 0
starts u s b h d e = ahead [] d e refl (no_bytes 0 b (omega arith) h)

-- the line of a component that was read
line_is : {c : Component} {a : IntervalAmount} {o : Option IntervalUnit} (u v : IntervalUnit) → Holds precision c a o → v ≡ or_else u o
    → line (unit_for u c) (amount_of precision c.amount) ≡ line v (value_of a)
line_is u v h e = rw (amount_value h.amount_is, h.unit_is u, ← e) refl

inside : {A : Type 0} {x y : A} → Some x ≡ Some y → x ≡ y
inside e = cc

-- a division of what one component stands before
data Behind (c : Component) (o : Option (List Component)) (e : List Component) : Type 0 where
  behind : (r : List Component) → o ≡ Some r → c ∷ r ≡ e → Behind c o e

taken_off : (c : Component) (o : Option (List Component)) (e : List Component) → before c o ≡ Some e → Behind c o e
unfolding before
taken_off c None e h = none_some h
taken_off c (Some r) e h = behind r refl (inside h)

module _ {u : IntervalUnit} {s start now : List ℕ} {at end : ℕ} (g : Goes u s at start now end) where
  -- no component: the text has no division
  pub none_here : step precision (drop at s) ≡ bad → (d : List Component) → divide precision s ≡ Some d → ⊥
  none_here h d e = from (g d e)
    where
      from : Ahead u s d at start now end → ⊥
      from (ahead w r q l p) = none_some (sym (at_bad precision s at h) ∙ q)

  -- the last component
  pub last_here : {a : IntervalAmount} {o : Option IntervalUnit} {next : List ℕ} {far : ℕ} (v : IntervalUnit) → LastIs precision s at a o → v ≡ or_else u o
      → Put end (line v (value_of a)) now next far → (d : List Component) → divide precision s ≡ Some d → Put 0 (lines precision u d) start next far
  unfolding lines
  last_here {a} {o} {next} {far} v l q p d e = from (g d e)
    where
      from : Ahead u s d at start now end → Put 0 (lines precision u d) start next far
      from (ahead w r h i j) =
          let k : l.this ∷ [] ≡ r = inside (sym (at_last precision s at l.stepped) ∙ h) in
          let m : w ++ line v (value_of a) ≡ lines precision u d =
          ap (λ (x : List ℕ). w ++ x) (sym (line_is u v l.holds q) ∙ sym (append-nil (line (unit_for u l.this) (amount_of precision l.this.amount))) ∙ ap (lines precision u) k) ∙ i in
          rw (← m) (then j p)

  -- one more, before the place x
  pub more_here : {a : IntervalAmount} {v : IntervalUnit} {x : ℕ} {next : List ℕ} {far : ℕ} → MoreIs precision s at a v x → Put end (line v (value_of a)) now next far
      → Goes u s x start next far
  unfolding lines or_else
  more_here {a} {v} {x} {next} {far} m p d e = from (g d e)
    where
      from : Ahead u s d at start now end → Ahead u s d x start next far
      from (ahead w r h i j) =
          let f : at + (x - at) ≡ x = omega (arith, m.further) in
          let o : OneMore precision s at m.this x = rw (f) at (at_more precision s at m.stepped) in
          off w r i j (taken_off m.this (divide precision (drop x s)) r (sym o.divided ∙ h))
        where
          off : (w : List ℕ) (r : List Component) → w ++ lines precision u r ≡ lines precision u d → Put 0 w start now end → Behind m.this (divide precision (drop x s)) r
              → Ahead u s d x start next far
          off w r i j (behind y b k) =
              let n : line (unit_for u m.this) (amount_of precision m.this.amount) ≡ line v (value_of a) = line_is u v m.holds refl in
              ahead (w ++ line v (value_of a)) y b
              (append_assoc w (line v (value_of a)) (lines precision u y) ∙ ap (λ (z : List ℕ). w ++ (z ++ lines precision u y)) (sym n) ∙ ap (λ (z : List Component). w ++ lines precision u z) k ∙ i)
              (then j p)
