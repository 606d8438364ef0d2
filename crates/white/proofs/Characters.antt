-- Characters at the front of a text: how white space begins, that no ASCII byte past the space begins any, and that white space is
-- well-formed UTF-8. Assumes nothing.
use mathlib.Core.Path.{◌≡◌, refl, ap}
use mathlib.Core.Bool.{true, false}
use mathlib.Core.Logic.{◌⊎◌, inl, inr, ⊎_elim}
use mathlib.Core.List.{List, [], ◌∷◌, ◌++◌}
use Prim.Native.Nat.{ℕ, zero, suc, ◌+◌, ◌-◌, ◌/◌, ◌%◌, ◌≤◌, ◌<◌}
use native.Mathlib.Nat.{add-zero}
use native.Mathlib.Omega.{arith}
use lib.Dec.{eqb, leb, ltb}
use lib.ListN.{length, get_or, take, drop, length-drop}
use lib.Seq.{get_or-drop}
use borrow.Author.Tests.{ne_eqb, leb-true, leb-false, le-leb, ltb-true}
use Rattle.text.specs.Digits.{within}
use Rattle.utf8.specs.Utf8.{scalar, Utf8, scalar_then}
use Rattle.white.specs.WhiteSpace.{white_space, White, white, white1, white_of, white_len}
use Rattle.text.proofs.Bools.{both_ways, by_test, within_under, within_over}
use Rattle.white.proofs.WhiteAgrees.{found, no_longer}

-- white space begins with a byte up to the space, or past ASCII
pub record Lead (w : List ℕ) : Type 0 where
  pub first : ℕ
  pub others : List ℕ
  pub begins : w ≡ first ∷ others
  pub outside : (first ≤ 0x20) ⊎ (0x80 ≤ first)

-- past the space, there is none in ASCII and none from 3001 on
module _ (c : ℕ) (q : (c < 0x80) ⊎ (0x3000 < c)) where
  not_within : (a b : ℕ) → 0x80 ≤ a → b ≤ 0x3000 → within a c b ≡ false
  not_within a b h k = ⊎_elim (λ l. within_under a c b (omega arith)) (λ l. within_over a c b (omega arith)) q

  not_this : (k : ℕ) → 0x80 ≤ k → k ≤ 0x3000 → eqb c k ≡ false
  not_this k h l = ne_eqb c k (λ e. ⊎_elim (λ m. omega arith) (λ m. omega arith) q)

  not_space : 0x20 < c → white_space c ≡ false
  not_space p =
      rw (
        within_over 0x0009 c 0x000D (omega arith),
        ne_eqb c 0x0020 (λ e. omega arith),
        not_this 0x0085 (omega arith) (omega arith),
        not_this 0x00A0 (omega arith) (omega arith),
        not_this 0x1680 (omega arith) (omega arith),
        not_within 0x2000 0x200A (omega arith) (omega arith),
        not_within 0x2028 0x2029 (omega arith) (omega arith),
        not_this 0x202F (omega arith) (omega arith),
        not_this 0x205F (omega arith) (omega arith),
        not_this 0x3000 (omega arith) (omega arith),
      )

pub lead : {w : List ℕ} → White w → Lead w
lead (white c e) =
    by_test (ltb c 0x80)
    (λ p. record {
      first = c;
      others = [];
      begins = rw p;
      outside = by_test (leb c 0x20) (λ q. inl (leb-true c 0x20 q)) (λ q. both_ways (white_space c) (not_space c (inl (ltb-true c 0x80 p)) (leb-false c 0x20 q)) e);
    })
    (λ p. by_test (ltb c 0x800)
    (λ q. record { first = 0xC0 + c / 64; others = (0x80 + c % 64) ∷ []; begins = rw (p, q); outside = inr (omega arith) })
    (λ q. by_test (ltb c 0x10000)
    (λ r. record { first = 0xE0 + c / 4096; others = (0x80 + c / 64 % 64) ∷ (0x80 + c % 64) ∷ []; begins = rw (p, q, r); outside = inr (omega arith) })
    (λ r. record { first = 0xF0 + c / 262144; others = (0x80 + c / 4096 % 64) ∷ (0x80 + c / 64 % 64) ∷ (0x80 + c % 64) ∷ []; begins = rw (p, q, r); outside = inr (omega arith) })))

pub white_some : {w : List ℕ} → White w → 0 < length w
white_some W = let l = lead W in omega (arith, ap length l.begins)

-- a white space character is one of UTF-8
pub white_utf8 : {w t : List ℕ} → White w → Utf8 t → Utf8 (w ++ t)
white_utf8 (white c e) u = scalar_then c valid u
  where
    valid : scalar c ≡ true
    valid =
        by_test (leb c 0x3000)
        (λ p. let q = leb-true c 0x3000 p in rw (le-leb c 0x10FFFF (omega arith), within_under 0xD800 c 0xDFFF (omega arith)))
        (λ p. let q = leb-false c 0x3000 p in both_ways (white_space c) (not_space c (inr q) (omega arith)) e)

-- a text that begins with an ASCII byte past the space begins with no white space
pub not_white : (b : ℕ) (t : List ℕ) → 0x20 < b → b < 0x80 → white_len (b ∷ t) ≡ 0
not_white b t p q = ⊎_elim (λ e. e) (λ f. from (white_len (b ∷ t)) f.0) (found (b ∷ t))
  where
    from : (k : ℕ) → White (take k (b ∷ t)) → k ≡ 0
    from zero W = refl
    from (suc k) W =
        let l = lead W in
        let e : b ≡ l.first = cc l.begins in
        absurd (⊎_elim (λ h. omega arith) (λ h. omega arith) l.outside)

-- a space
one_byte : (c d : ℕ) → 1 ≡ white_of 0x20 c d
unfolding white_of white1
one_byte c d = refl

pub space_here : (s : List ℕ) (at : ℕ) {b : ℕ} → b ≡ get_or s at 0 → b ≡ 0x20 → (1 ≡ white_len (drop at s)) × (1 ≤ length s - at)
space_here s at e h = (one, omega (arith, one, no_longer (drop at s), length-drop at s))
  where
    one : 1 ≡ white_len (drop at s)
    one = rw (get_or-drop at s 0 0, add-zero, ← e, h) (one_byte (get_or (drop at s) 1 0) (get_or (drop at s) 2 0))
