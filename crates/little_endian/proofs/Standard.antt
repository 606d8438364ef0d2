-- What the standard library's conversions say, at any width that it has, in this crate's words. Assumes nothing.
use mathlib.Core.Path.{◌≡◌, refl, sym, ap, ◌∙◌}
use mathlib.Core.List.{List, [], ◌∷◌, ◌++◌}
use Prim.Native.Nat.{ℕ, zero, suc, ◌+◌, ◌-◌, ◌*◌, ◌/◌, ◌%◌, ◌^◌, ◌<◌}
use native.Mathlib.Nat.{pow-succ', pow-zero}
use native.Mathlib.Omega.{arith}
use lib.Dec.{ltb}
use lib.IntN.{ℤ, pos, negsuc}
use lib.ListN.{length, get_or, take}
use lib.Seq.{take-suc, take-length, length-take-le}
use lib.Signed.{mag}
use mir.Syntax.{Width}
use mir.Val.{SFits, bits, hbits, to_z, of_z}
use mir.Facts.{to_z-of_z, sfits_to_z}
use borrow.Author.Tests.{lt-ltb, le-ltb, ltb-true, ltb-false}
use Rattle.std.proofs.Math.Nat.{div-div-eq-div-mul, mul_left_comm}
use Rattle.std.specs.Int.{byte_len, byte_at, byte_worth, bytes_low_first, sum_through, from_le_bytes, to_le_bytes, cast_signed, cast_unsigned}
use Rattle.text.proofs.Bools.{by_test}
use Rattle.little_endian.specs.Holds.{Holds}
use Rattle.little_endian.specs.Bytes.{Bytes, unsigned, lowest_bytes, with_sign, without_sign, number, bytes_of}
use Rattle.little_endian.proofs.Undo.{of_items, below, one_bit_less, holds, held}

-- ---- without sign

one_more : (s : List ℕ) (b : ℕ) → unsigned (s ++ (b ∷ [])) ≡ unsigned s + b * 256 ^ length s
unfolding unsigned
one_more [] b = omega (arith, pow-zero 256)
one_more (c ∷ s) b = omega (arith, one_more s b, pow-succ' 256 (length s), ap (λ (m : ℕ). b * m) (pow-succ' 256 (length s)), mul_left_comm b 256 (256 ^ length s))

worth : (i b : ℕ) → byte_worth i b ≡ b * 256 ^ i
worth zero b = omega (arith, pow-zero 256)
worth (suc i) b = refl

summed : (s : List ℕ) (k : ℕ) → k < length s → sum_through (λ i. byte_worth i (get_or s i 0)) k ≡ unsigned (take (suc k) s)
unfolding unsigned
summed s zero h = rw (take-suc s 0 0 h) (omega (arith, one_more [] (get_or s 0 0)))
summed s (suc k) h =
    rw (take-suc s (suc k) 0 h)
    (omega (
      arith,
      one_more (take (suc k) s) (get_or s (suc k) 0),
      summed s k (omega (arith, h)),
      worth (suc k) (get_or s (suc k) 0),
      ap (λ (m : ℕ). get_or s (suc k) 0 * 256 ^ m) (length-take-le (suc k) s (omega (arith, h))),
    ))

byte : (i n : ℕ) → byte_at i n ≡ n / 256 ^ i % 256
byte zero n = rw (pow-zero 256) (omega arith)
byte (suc i) n = refl

low_first : (i k n : ℕ) → bytes_low_first i k n ≡ lowest_bytes k (n / 256 ^ i)
unfolding lowest_bytes
low_first i zero n = refl
low_first i (suc k) n =
    let next : n / 256 ^ i / 256 ≡ n / 256 ^ suc i = div-div-eq-div-mul n (256 ^ i) 256 ∙ ap (λ (m : ℕ). n / m) (omega (arith, pow-succ' 256 i)) in
    rw (next, byte i n, low_first (suc i) k n) refl

-- ---- with sign

-- a width of whole bytes, of which one bit is the sign
module _ (w : Width) (some : 0 < byte_len w) (most : 256 ^ byte_len w ≡ 2 ^ bits w) (range : 8 * byte_len w - 1 ≡ hbits w) where
  half : 2 ^ bits w ≡ 2 * 2 ^ hbits w
  half = sym most ∙ one_bit_less (byte_len w) some ∙ ap (λ (k : ℕ). 2 * 2 ^ k) range

  signed : (n : ℕ) → to_z w n ≡ with_sign (256 ^ byte_len w) n
  unfolding with_sign
  signed n =
      by_test (ltb n (2 ^ hbits w))
      (λ e. rw (e, lt-ltb (2 * n) (256 ^ byte_len w) (omega (arith, ltb-true n (2 ^ hbits w) e, most, half))) refl)
      (λ e. rw (e, le-ltb (2 * n) (256 ^ byte_len w) (omega (arith, ltb-false n (2 ^ hbits w) e, most, half))) (ap (λ (m : ℕ). negsuc (m - suc n)) (sym most)))

  unsigned_cast : (z : ℤ) → of_z w z ≡ without_sign (256 ^ byte_len w) z
  unfolding without_sign
  unsigned_cast (pos n) = refl
  unsigned_cast (negsuc n) = ap (λ (m : ℕ). m - suc n) (sym most)

  -- without sign, as many bytes as the width make
  made : (s : List ℕ) → length s ≡ byte_len w → from_le_bytes w s ≡ unsigned s
  made s l =
      let n : suc (byte_len w - 1) ≡ length s = omega (arith, l, some) in
      summed s (byte_len w - 1) (omega (arith, l, some)) ∙ ap (λ (k : ℕ). unsigned (take k s)) n ∙ ap unsigned (take-length s)

  -- what `from_le_bytes` gives
  pub reads : (s : List ℕ) (z : ℤ) → length s ≡ byte_len w → ((i : ℕ) → get_or s i 0 < 256) → z ≡ cast_signed w (from_le_bytes w s)
      → (to_z w (of_z w z) ≡ number (byte_len w) s) × Holds (byte_len w) s (to_z w (of_z w z))
  reads s z l h e =
      let b : Bytes s = of_items s h in
      let q : z ≡ to_z w (unsigned s) = e ∙ ap (to_z w) (made s l) in
      let small : unsigned s < 2 ^ bits w = omega (arith, below s b, ap (λ (k : ℕ). 256 ^ k) l, most) in
      let f : SFits w z = rw (← q) at (sfits_to_z {w = w} {n = unsigned s} (record { fits = small })) in
      let is : to_z w (of_z w z) ≡ number (byte_len w) s = to_z-of_z f ∙ q ∙ signed (unsigned s) in
      (is, rw is (holds (byte_len w) s b l))

  -- what `to_le_bytes` gives
  pub writes : (s : List ℕ) (z : ℤ) → SFits w z → s ≡ to_le_bytes w (cast_unsigned w (to_z w (of_z w z))) → (s ≡ bytes_of (byte_len w) z) × Holds (byte_len w) s z
  writes s z f e =
      let is : s ≡ bytes_of (byte_len w) z =
      rw (to_z-of_z f) at e
      ∙ low_first 0 (byte_len w) (of_z w z)
      ∙ ap (lowest_bytes (byte_len w)) (rw (pow-zero 256) (omega arith))
      ∙ ap (lowest_bytes (byte_len w)) (unsigned_cast z) in
      (is, rw is (held (byte_len w) some z (rw range (lt-ltb (mag z) (2 ^ hbits w) f.sfits))))
