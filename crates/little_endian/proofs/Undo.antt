-- The bytes of a number and the number of the bytes, over the width: each undoes the other (`number_of_bytes`, `bytes_of_number`), and they are
-- those of the relation (`agrees`, `holds`). Assumes nothing.
use mathlib.Core.Path.{◌≡◌, refl, sym, ap, ◌∙◌}
use mathlib.Core.Bool.{true}
use mathlib.Core.Logic.{◌↔◌}
use mathlib.Core.List.{List, [], ◌∷◌, ◌++◌}
use Prim.Native.Nat.{ℕ, zero, suc, ◌+◌, ◌-◌, ◌*◌, ◌/◌, ◌%◌, ◌^◌, ◌≤◌, ◌<◌}
use native.Mathlib.Nat.{pow-succ', pow-zero}
use native.Mathlib.Omega.{arith}
use lib.Dec.{ltb}
use lib.IntN.{ℤ, pos, negsuc}
use lib.ListN.{length, get_or, take, drop}
use borrow.Author.Tests.{lt-ltb, le-ltb, ltb-true, ltb-false}
use Rattle.std.proofs.lemmas.Nat.{pow-add}
use Rattle.text.proofs.Bools.{by_test}
use Rattle.number.specs.Widths.{in_signed}
use Rattle.little_endian.specs.Holds.{Makes, nothing, lowest, Holds, not_negative, negative}
use Rattle.little_endian.specs.Bytes.{Bytes, unsigned, lowest_bytes, with_sign, without_sign, number, bytes_of}

-- ---- bytes

-- by their places
pub of_items : (s : List ℕ) → ((i : ℕ) → get_or s i 0 < 256) → Bytes s
of_items [] h = tt
of_items (b ∷ s) h = (h 0, of_items s (λ i. h (suc i)))

pub append : (s t : List ℕ) → Bytes s → Bytes t → Bytes (s ++ t)
append [] t h k = k
append (b ∷ s) t h k = (h.0, append s t h.1 k)

pub take_bytes : (n : ℕ) (s : List ℕ) → Bytes s → Bytes (take n s)
take_bytes zero s h = tt
take_bytes (suc n) [] h = tt
take_bytes (suc n) (b ∷ s) h = (h.0, take_bytes n s h.1)

pub drop_bytes : (n : ℕ) (s : List ℕ) → Bytes s → Bytes (drop n s)
drop_bytes zero s h = h
drop_bytes (suc n) [] h = tt
drop_bytes (suc n) (b ∷ s) h = drop_bytes n s h.1

-- ---- without sign

pub below : (s : List ℕ) → Bytes s → unsigned s < 256 ^ length s
unfolding unsigned
below [] h = omega (arith, pow-zero 256)
below (b ∷ s) h = omega (arith, pow-succ' 256 (length s), below s h.1, h.0)

pub as_many : (width n : ℕ) → length (lowest_bytes width n) ≡ width
unfolding lowest_bytes
as_many zero n = refl
as_many (suc width) n = ap suc (as_many width (n / 256))

pub are_bytes : (width n : ℕ) → Bytes (lowest_bytes width n)
unfolding lowest_bytes
are_bytes zero n = tt
are_bytes (suc width) n = (omega arith, are_bytes width (n / 256))

bytes_back : (s : List ℕ) → Bytes s → lowest_bytes (length s) (unsigned s) ≡ s
unfolding unsigned lowest_bytes
bytes_back [] h = refl
bytes_back (b ∷ s) h =
    let last : (b + 256 * unsigned s) % 256 ≡ b = omega (arith, h.0) in
    let more : (b + 256 * unsigned s) / 256 ≡ unsigned s = omega (arith, h.0) in
    rw (last, more, bytes_back s h.1) refl

number_back : (width n : ℕ) → n < 256 ^ width → unsigned (lowest_bytes width n) ≡ n
unfolding unsigned lowest_bytes
number_back zero n h = omega (arith, pow-zero 256, h)
number_back (suc width) n h = omega (arith, number_back width (n / 256) (omega (arith, h, pow-succ' 256 width)))

-- ---- with sign, of m numbers

kept : (m n : ℕ) → n < m → without_sign m (with_sign m n) ≡ n
unfolding with_sign without_sign
kept m n h = by_test (ltb (2 * n) m) (λ e. rw e refl) (λ e. rw e (omega (arith, h)))

-- half of them are negative
abbrev InHalf : ℕ → ℤ → Type 0
InHalf m (pos n) = 2 * n < m
InHalf m (negsuc n) = 2 * suc n ≤ m

signed_back : (m : ℕ) (z : ℤ) → InHalf m z → with_sign m (without_sign m z) ≡ z
unfolding with_sign without_sign
signed_back m (pos n) h = rw (lt-ltb (2 * n) m h) refl
signed_back m (negsuc n) h =
    let l : m ≤ 2 * (m - suc n) = omega (arith, h) in
    rw (le-ltb (2 * (m - suc n)) m l) (ap negsuc (omega (arith, h)))

in_range : (m : ℕ) (z : ℤ) → InHalf m z → without_sign m z < m
unfolding without_sign
in_range m (pos n) h = omega (arith, h)
in_range m (negsuc n) h = omega (arith, h)

in_half : (m n : ℕ) → n < m → InHalf m (with_sign m n)
unfolding with_sign
in_half m n h = by_test (ltb (2 * n) m) (λ e. rw e (ltb-true (2 * n) m e)) (λ e. rw e (omega (arith, h, ltb-false (2 * n) m e)))

-- ---- the range of a width, which has one bit less than its bytes

all_bits : (width : ℕ) → 256 ^ width ≡ 2 ^ (8 * width)
all_bits zero = refl
all_bits (suc width) =
    let more : 8 * suc width ≡ 8 * width + 8 = omega arith in
    rw (more, pow-add 2 (8 * width) 8) (omega (arith, pow-succ' 256 width, all_bits width))

pub one_bit_less : (width : ℕ) → 0 < width → 256 ^ width ≡ 2 * 2 ^ (8 * width - 1)
one_bit_less zero h = absurd (omega arith)
one_bit_less (suc width) h =
    let bits : 8 * suc width ≡ suc (8 * suc width - 1) = omega arith in
    all_bits (suc width) ∙ ap (λ (k : ℕ). 2 ^ k) bits ∙ pow-succ' 2 (8 * suc width - 1)

module _ (width : ℕ) (some : 0 < width) where
  half_of : (z : ℤ) → in_signed (8 * width - 1) z ≡ true → InHalf (256 ^ width) z
  half_of (pos n) e = omega (arith, ltb-true n (2 ^ (8 * width - 1)) e, one_bit_less width some)
  half_of (negsuc n) e = omega (arith, ltb-true n (2 ^ (8 * width - 1)) e, one_bit_less width some)

  of_half : (z : ℤ) → InHalf (256 ^ width) z → in_signed (8 * width - 1) z ≡ true
  of_half (pos n) h = lt-ltb n (2 ^ (8 * width - 1)) (omega (arith, h, one_bit_less width some))
  of_half (negsuc n) h = lt-ltb n (2 ^ (8 * width - 1)) (omega (arith, h, one_bit_less width some))

  -- ---- the law

  -- the number of a number's bytes is the number
  pub number_of_bytes : (z : ℤ) → in_signed (8 * width - 1) z ≡ true → number width (bytes_of width z) ≡ z
  number_of_bytes z e =
      let h : InHalf (256 ^ width) z = half_of z e in
      rw (number_back width (without_sign (256 ^ width) z) (in_range (256 ^ width) z h)) (signed_back (256 ^ width) z h)

  -- the bytes of the bytes' number are the bytes
  pub bytes_of_number : (s : List ℕ) → Bytes s → length s ≡ width → bytes_of width (number width s) ≡ s
  bytes_of_number s h e =
      let l : unsigned s < 256 ^ width = rw e at (below s h) in
      let b : lowest_bytes width (unsigned s) ≡ s = rw e at (bytes_back s h) in
      rw (kept (256 ^ width) (unsigned s) l) b

  -- and the number of as many bytes is one of the width
  pub number_fits : (s : List ℕ) → Bytes s → length s ≡ width → in_signed (8 * width - 1) (number width s) ≡ true
  number_fits s h e = of_half (number width s) (in_half (256 ^ width) (unsigned s) (rw e at (below s h)))

-- ---- the relation

makes : (s : List ℕ) → Bytes s → Makes s (unsigned s)
unfolding unsigned
makes [] h = nothing
makes (b ∷ s) h = lowest h.0 (makes s h.1)

made : {s : List ℕ} {n : ℕ} → Makes s n → Bytes s × (unsigned s ≡ n)
unfolding unsigned
made nothing = (tt, refl)
made (lowest h m) = let q = made m in ((h, q.0), rw (q.1) refl)

signed_holds : (width : ℕ) (s : List ℕ) (z : ℤ) → Bytes s → length s ≡ width → InHalf (256 ^ width) z → unsigned s ≡ without_sign (256 ^ width) z → Holds width s z
unfolding without_sign
signed_holds width s (pos n) h e f q = not_negative e (rw q at (makes s h)) f
signed_holds width s (negsuc n) h e f q = negative e (makes s h) (omega (arith, q, f)) f

-- bytes hold the number that is computed of them
pub holds : (width : ℕ) (s : List ℕ) → Bytes s → length s ≡ width → Holds width s (number width s)
holds width s h e =
    let l : unsigned s < 256 ^ width = rw e at (below s h) in
    signed_holds width s (number width s) h e (in_half (256 ^ width) (unsigned s) l) (sym (kept (256 ^ width) (unsigned s) l))

module _ (width : ℕ) (some : 0 < width) where
  -- what bytes that hold a number are
  pub record Held (s : List ℕ) (z : ℤ) : Type 0 where
    pub long : length s ≡ width
    pub bytes : Bytes s
    pub in_width : in_signed (8 * width - 1) z ≡ true
    pub is_number : number width s ≡ z

  pub of_holds : {s : List ℕ} {z : ℤ} → Holds width s z → Held s z
  unfolding with_sign
  of_holds (not_negative {n} e m h) =
      let q = made m in
      record { long = e; bytes = q.0; in_width = of_half width some (pos n) h; is_number = rw (q.1, lt-ltb (2 * n) (256 ^ width) h) refl }
  of_holds (negative {n} {m} e k l h) =
      let q = made k in
      let up : 256 ^ width ≤ 2 * n = omega (arith, l, h) in
      record { long = e; bytes = q.0; in_width = of_half width some (negsuc m) h; is_number = rw (q.1, le-ltb (2 * n) (256 ^ width) up) (ap negsuc (omega (arith, l))) }

  -- a number is held by the bytes that are computed of it
  pub held : (z : ℤ) → in_signed (8 * width - 1) z ≡ true → Holds width (bytes_of width z) z
  held z e =
      let n : ℕ = without_sign (256 ^ width) z in
      let h : InHalf (256 ^ width) z = half_of width some z e in
      signed_holds width (bytes_of width z) z (are_bytes width n) (as_many width n) h (number_back width n (in_range (256 ^ width) z h))

  -- as many bytes as the width hold z exactly when their number is z
  pub agrees : (s : List ℕ) (z : ℤ) → Bytes s → length s ≡ width → Holds width s z ↔ (number width s ≡ z)
  agrees s z h e = (λ q. (of_holds q).is_number, λ q. rw (← q) (holds width s h e))

  -- a number of the width is held by its bytes and no others
  pub only : (z : ℤ) (s : List ℕ) → in_signed (8 * width - 1) z ≡ true → Holds width s z ↔ (bytes_of width z ≡ s)
  only z s e = (
    λ q. let o = of_holds q in rw (← o.is_number) (bytes_of_number width some s o.bytes o.long),
    λ q. rw (← q) (held z e),
  )
