-- Well-formed UTF-8, read byte by byte from the front. Assumes nothing.
use mathlib.Core.Path.{◌≡◌, refl, sym}
use mathlib.Core.Bool.{true, false}
use mathlib.Core.List.{List, []}
use Prim.Native.Nat.{ℕ, zero, suc, ◌+◌, ◌-◌, ◌≤◌, ◌<◌}
use native.Mathlib.Omega.{arith}
use native.Mathlib.Numerals.{add-one, sub-one}
use lib.Dec.{eqb}
use lib.ListN.{get_or, length, drop, drop_of_length-le}
use lib.Seq.{drop-cons}
use borrow.Author.Tests.{ne_eqb}
use Rattle.text.specs.Digits.{within}
use Rattle.utf8.specs.Utf8.{table, follows, well_formed}
use Rattle.utf8.specs.declared.Follow.{Follow}

-- a first byte
pub first : (s : List ℕ) (i n low high : ℕ) (f : Follow) → i < length s → n ≡ 0 → f ≡ follows table (get_or s i 0) → well_formed n low high (drop i s) ≡ well_formed f.count f.low f.high (drop (i + 1) s)
unfolding well_formed
first s i n low high f h z e = rw (z, drop-cons s i 0 h, add-one, e)

-- a later byte of a character, of which n are still to come
module _ (s : List ℕ) (i low high : ℕ) (h : i < length s) where
  pub next : (n : ℕ) → (n ≡ 0 → ⊥) → within low (get_or s i 0) high ≡ true → well_formed n low high (drop i s) ≡ well_formed (n - 1) 0x80 0xBF (drop (i + 1) s)
  unfolding well_formed
  next zero z p = absurd (z refl)
  next (suc n) z p = rw (drop-cons s i 0 h, add-one, sub-one, p)

  pub none : (n : ℕ) → (n ≡ 0 → ⊥) → within low (get_or s i 0) high ≡ false → well_formed n low high (drop i s) ≡ false
  unfolding well_formed
  none zero z p = absurd (z refl)
  none (suc n) z p = rw (drop-cons s i 0 h, p)

-- the end of the text
pub at_end : (s : List ℕ) (i n low high : ℕ) → length s ≤ i → well_formed n low high (drop i s) ≡ eqb n 0
unfolding well_formed
at_end s i n low high h = rw (drop_of_length-le s h) (by n)
  where
    by : (n : ℕ) → well_formed n low high [] ≡ eqb n 0
    by zero = refl
    by (suc n) = sym (ne_eqb (suc n) 0 (λ e. omega arith))
