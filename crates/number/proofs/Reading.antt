-- Numerals read from the front: the digits after a sign as a loop meets them, and a text by its first byte. Assumes nothing.
use mathlib.Core.Path.{◌≡◌, refl, sym, ◌∙◌}
use mathlib.Core.Bool.{Bool, true, false, cond}
use mathlib.Core.List.{List, [], ◌∷◌}
use Rattle.std.specs.Prelude.{None, Some}
use Prim.Native.Nat.{ℕ, ◌+◌, ◌*◌, ◌^◌, ◌≤◌, ◌<◌}
use native.Mathlib.Omega.{arith}
use lib.ListN.{get_or, length, drop, length-drop}
use mir.Syntax.{Width}
use mir.Val.{hbits}
use borrow.Author.Tests.{ne_eqb}
use Rattle.text.specs.Digits.{digits, value, digit_of}
use Rattle.text.proofs.Bools.{and_false}
use Rattle.text.proofs.DigitLaws.{digits_on, digits_off, digits_end, value_on, value_end, grows}
use Rattle.number.specs.Widths.{fit, signed, keep, in_signed, in_unsigned, in_type}
use Rattle.number.specs.Decimal.{unsigned, numeral, integer}
use Rattle.number.proofs.Sizes.{too_large}

-- ---- the digits from place at on, after a sign

by_digits : (neg : Bool) (t : List ℕ) → 0 < length t → unsigned neg t ≡ cond (digits t) (Some (signed neg (value 0 t))) None
unfolding digits
by_digits neg [] h = absurd (omega arith)
by_digits neg (b ∷ t) h = refl

nothing : (k : ℕ) (neg : Bool) (t : List ℕ) → length t ≡ 0 → None ≡ keep (in_signed k) (unsigned neg t)
nothing k neg [] h = refl
nothing k neg (b ∷ t) h = absurd (omega arith)

pub no_digits : (w : Width) (neg : Bool) (s : List ℕ) (at : ℕ) → length s ≤ at → None ≡ keep (in_signed (hbits w)) (unsigned neg (drop at s))
no_digits w neg s at h = nothing (hbits w) neg (drop at s) (simp length-drop (omega arith))

-- at place i the number a is read, and what is left goes on to the number and the digits from place at on
pub record GoesOn (s : List ℕ) (at i a : ℕ) : Type 0 where
  pub number : value a (drop i s) ≡ value 0 (drop at s)
  pub figures : digits (drop i s) ≡ digits (drop at s)

module _ (w : Width) (neg : Bool) {s : List ℕ} {at i a : ℕ} (first : at < length s) (r : GoesOn s at i a) where
  some_digits : unsigned neg (drop at s) ≡ cond (digits (drop at s)) (Some (signed neg (value 0 (drop at s)))) None
  some_digits = by_digits neg (drop at s) (simp length-drop (omega arith))

  past : 2 ^ hbits w < value 0 (drop at s) → None ≡ keep (in_signed (hbits w)) (unsigned neg (drop at s))
  past g = rw some_digits (by (digits (drop at s)))
    where
      by : (x : Bool) → None ≡ keep (in_signed (hbits w)) (cond x (Some (signed neg (value 0 (drop at s)))) None)
      by true = too_large w (value 0 (drop at s)) neg g
      by false = refl

  pub whole : length s ≤ i → fit (hbits w) (signed neg a) ≡ keep (in_signed (hbits w)) (unsigned neg (drop at s))
  whole h = rw (some_digits, sym r.figures ∙ digits_end s i h, sym r.number ∙ value_end a s i h)

  -- d is the digit at place i
  module _ {d : ℕ} (h : i < length s) (f : get_or s i 0 < 256) (e : d ≡ digit_of (get_or s i 0)) where
    pub no_digit_here : 10 ≤ d → None ≡ keep (in_signed (hbits w)) (unsigned neg (drop at s))
    no_digit_here g = rw (some_digits, sym r.figures ∙ digits_off s i d h f e g)

    pub too_long : d < 10 → 2 ^ hbits w < a * 10 → None ≡ keep (in_signed (hbits w)) (unsigned neg (drop at s))
    too_long g l = past (omega (arith, r.number, value_on s i d h f e a g, grows (drop (i + 1) s) (a * 10 + d)))

-- one digit more
pub one_more : {s : List ℕ} {at i a b d : ℕ} → GoesOn s at i a → i < length s → get_or s i 0 < 256 → d ≡ digit_of (get_or s i 0) → d < 10 → b ≡ a * 10 + d → GoesOn s at (i + 1) b
one_more {s} {at} {i} {a} {b} {d} r h f e g q =
    record { number = rw q (sym (value_on s i d h f e a g) ∙ r.number); figures = sym (digits_on s i d h f e g) ∙ r.figures }

-- ---- a text by its first byte

module _ (sign : Bool) (bits : ℕ) where
  pub no_sign : (s : List ℕ) → (get_or s 0 0 ≡ 0x2B → ⊥) → (get_or s 0 0 ≡ 0x2D → ⊥) → keep (in_type sign bits) (unsigned false s) ≡ integer sign bits s
  no_sign [] p q = refl
  no_sign (b ∷ t) p q = rw (ne_eqb b 0x2B p, ne_eqb b 0x2D q, and_false sign)

module _ (bits : ℕ) where
  -- a minus is no sign of an unsigned type, and behind another first byte its numbers are those of a signed type
  pub refused : (s : List ℕ) → get_or s 0 0 ≡ 0x2D → None ≡ integer false bits s
  refused [] e = refl
  refused (b ∷ t) e = rw e

  pub alike : (s : List ℕ) → (get_or s 0 0 ≡ 0x2D → ⊥) → keep (in_unsigned bits) (numeral true s) ≡ integer false bits s
  alike [] q = refl
  alike (b ∷ t) q = rw (ne_eqb b 0x2D q)
