-- The definitions agree: what the grammar `Numeral` says of a text is what `numeral` computes, `in_signed` is the usual range of a
-- signed width, and a number read at more bits and then narrowed is read at fewer. Assumes nothing.
use mathlib.Core.Path.{◌≡◌, refl}
use mathlib.Core.Bool.{Bool, true, false, ◌&&◌, cond, false≢true}
use mathlib.Core.List.{List, [], ◌∷◌}
use mathlib.Core.Logic.{◌↔◌}
use Rattle.std.specs.Prelude.{Option, None, Some}
use Prim.Native.Nat.{ℕ, ◌-◌, ◌^◌, ◌≤◌, ◌<◌}
use native.Mathlib.Omega.{arith}
use native.Mathlib.Nat.{lt_of_lt_of_le}
use lib.Dec.{eqb}
use lib.ListN.{length}
use lib.IntN.{ℤ, pos, negsuc}
use lib.Pow.{pow_pos, pow_mono}
use lib.Signed.{le_z, mag}
use borrow.Author.Tests.{eqb-true, ltb-true, lt-ltb, ne_eqb, le-leb}
use Rattle.text.specs.Digits.{is_digit, digits, value}
use Rattle.text.proofs.Bools.{by_test, both_ways, and_false, and_left, and_right, within_is}
use Rattle.number.specs.Widths.{in_signed, in_type, keep, signed}
use Rattle.number.specs.Decimal.{Digits, one_or_more, Numeral, plain, plus, minus, unsigned, numeral, integer}
use Rattle.number.proofs.Zed.{le_yes, of_mag}

-- ---- one digit or more

pub all_digits : {d : List ℕ} → Digits d → digits d ≡ true
unfolding digits
all_digits (one_or_more p q) = rw (p, q)

pub some_digits : {d : List ℕ} → Digits d → 0 < length d
some_digits (one_or_more p q) = omega arith

-- ---- the grammar and the computation

written : (neg : Bool) {t : List ℕ} → Digits t → unsigned neg t ≡ Some (signed neg (value 0 t))
written neg (one_or_more p q) = rw (p, q)

-- a byte that is a digit is no sign
digit_no_sign : (b c : ℕ) → c < 0x30 → is_digit b ≡ true → eqb b c ≡ false
digit_no_sign b c h e = ne_eqb b c (λ p. omega (arith, within_is 0x30 b 0x39 e))

computes : (sign : Bool) {t : List ℕ} {z : ℤ} → Numeral sign t z → numeral sign t ≡ Some z
computes sign (plain (one_or_more {b} {t} p q)) =
    rw (digit_no_sign b 0x2B (omega arith) p, digit_no_sign b 0x2D (omega arith) p, and_false sign) (written false (one_or_more p q))
computes sign (plus d) = written false d
computes sign (minus e d) = rw e (written true d)

clash {ℓ} : {A : Type ℓ} {z : ℤ} → None ≡ Some z → A
clash e = let x : ◌≡◌ {A = ℕ} 0 1 = cc in absurd (omega arith)

read_back : (neg : Bool) (t : List ℕ) (z : ℤ) → unsigned neg t ≡ Some z → Digits t × (signed neg (value 0 t) ≡ z)
read_back neg [] z e = clash e
read_back neg (b ∷ t) z e =
    by_test (is_digit b && digits t)
    (λ p.
    let q : Some (signed neg (value 0 (b ∷ t))) ≡ Some z = rw p at e in
    (one_or_more (and_left (is_digit b) (digits t) p) (and_right (is_digit b) (digits t) p), cc))
    (λ p. let q : None ≡ Some z = rw p at e in clash q)

writes : (sign : Bool) (t : List ℕ) (z : ℤ) → numeral sign t ≡ Some z → Numeral sign t z
writes sign [] z e = clash e
writes sign (b ∷ t) z e =
    by_test (eqb b 0x2B)
    (λ p. let r = read_back false t z (rw p at e) in rw (eqb-true b 0x2B p, ← r.1) (plus r.0))
    (λ p.
    by_test (sign && eqb b 0x2D)
    (λ q.
    let r = read_back true t z (rw (p, q) at e) in
    rw (eqb-true b 0x2D (and_right sign (eqb b 0x2D) q), ← r.1) (minus (and_left sign (eqb b 0x2D) q) r.0))
    (λ q. let r = read_back false (b ∷ t) z (rw (p, q) at e) in rw (← r.1) (plain r.0)))

pub agrees : (sign : Bool) (t : List ℕ) (z : ℤ) → Numeral sign t z ↔ (numeral sign t ≡ Some z)
agrees sign t z = (computes sign, writes sign t z)

-- a text writes one number
pub unique : (sign : Bool) {t : List ℕ} {z y : ℤ} → Numeral sign t z → Numeral sign t y → z ≡ y
unique sign {t} {z} {y} m n = let p = computes sign m in let q = computes sign n in cc

-- ---- the range

pub range : (k : ℕ) (z : ℤ) → (in_signed k z ≡ true) ↔ ((le_z (negsuc (2 ^ k - 1)) z ≡ true) × (le_z z (pos (2 ^ k - 1)) ≡ true))
range k z = (into z, λ p. lt-ltb (mag z) (2 ^ k) (of_mag z (omega (arith, le_yes z (pos (2 ^ k - 1)) p.1, pow_pos k)) (omega (arith, le_yes (negsuc (2 ^ k - 1)) z p.0, pow_pos k))))
  where
    into : (z : ℤ) → in_signed k z ≡ true → (le_z (negsuc (2 ^ k - 1)) z ≡ true) × (le_z z (pos (2 ^ k - 1)) ≡ true)
    into (pos n) e = (refl, le-leb n (2 ^ k - 1) (omega (arith, ltb-true n (2 ^ k) e)))
    into (negsuc n) e = (le-leb n (2 ^ k - 1) (omega (arith, ltb-true n (2 ^ k) e)), refl)

-- ---- narrowing

twice : (f g : ℤ → Bool) → ((z : ℤ) → g z ≡ true → f z ≡ true) → (o : Option ℤ) → keep g (keep f o) ≡ keep g o
twice f g h None = refl
twice f g h (Some z) = by_test (f z) (λ e. rw e) (λ e. by_test (g z) (λ p. both_ways (f z) e (h z p)) (λ p. rw (e, p)))

below : (sign : Bool) (j k : ℕ) → cond sign (j - 1) j ≤ k → (z : ℤ) → in_type sign j z ≡ true → in_signed k z ≡ true
below true j k h z e = lt-ltb (mag z) (2 ^ k) (lt_of_lt_of_le (ltb-true (mag z) (2 ^ (j - 1)) e) (pow_mono h))
below false j k h (pos n) e = lt-ltb n (2 ^ k) (lt_of_lt_of_le (ltb-true n (2 ^ j) e) (pow_mono h))
below false j k h (negsuc n) e = absurd (false≢true e)

-- a number read as one of k signed bits and kept where it is one of a type of fewer bits is read as one of that type
pub fewer_bits : (sign : Bool) (j k : ℕ) → cond sign (j - 1) j ≤ k - 1 → (t : List ℕ) → keep (in_type sign j) (integer true k t) ≡ keep (in_type sign j) (numeral true t)
fewer_bits sign j k h t = twice (in_type true k) (in_type sign j) (below sign j (k - 1) h) (numeral true t)
