-- White space characters by their bytes: `white_len` measures exactly the encodings of Unicode's White_Space. Assumes nothing.
use mathlib.Core.Path.{◌≡◌, refl, subst}
use mathlib.Core.Bool.{Bool, true, false, ◌&&◌, ◌||◌}
use mathlib.Core.Logic.{◌⊎◌, inl, inr, ⊎_elim}
use mathlib.Core.List.{List, [], ◌∷◌, ◌++◌}
use Prim.Native.Nat.{ℕ, ◌+◌, ◌/◌, ◌%◌, ◌≤◌, ◌<◌}
use native.Mathlib.Omega.{arith}
use native.Mathlib.Nat.{add-zero}
use lib.Dec.{eqb}
use lib.ListN.{length, get_or, take, drop}
use lib.Seq.{get_or-drop}
use borrow.Author.Tests.{eqb-true, ne_eqb, lt-ltb, le-ltb}
use Rattle.text.specs.Digits.{within}
use Rattle.utf8.specs.Utf8.{encode}
use Rattle.white.specs.WhiteSpace.{white_space, White, white, white1, white2, white3, white_of, white_len}
use Rattle.text.proofs.Bools.{and_left, and_right, and_false, or_cases, by_test, within_yes, within_over, within_is}

-- the three bytes from a place on
pub at_place : (s : List ℕ) (at : ℕ) → white_len (drop at s) ≡ white_of (get_or s at 0) (get_or s (at + 1) 0) (get_or s (at + 2) 0)
at_place s at = rw (get_or-drop at s 0 0, get_or-drop at s 1 0, get_or-drop at s 2 0, add-zero)

-- ---- which bytes are none

not_white1 : (b : ℕ) → 0x20 < b → white1 b ≡ false
unfolding white1
not_white1 b h = rw (within_over 0x09 b 0x0D (omega arith), ne_eqb b 0x20 (λ e. omega arith))

not_white2 : (b c : ℕ) → (b ≡ 0xC2 → ⊥) → white2 b c ≡ false
unfolding white2
not_white2 b c h = rw (ne_eqb b 0xC2 h)

not_white3 : (b c d : ℕ) → b < 0xE1 → white3 b c d ≡ false
unfolding white3
not_white3 b c d h = rw (ne_eqb b 0xE1 (λ e. omega arith), ne_eqb b 0xE2 (λ e. omega arith), ne_eqb b 0xE3 (λ e. omega arith))

short2 : (b : ℕ) → white2 b 0 ≡ false
unfolding white2
short2 b = rw (and_false (eqb b 0xC2))

short3 : (b c : ℕ) → white3 b c 0 ≡ false
unfolding white3
short3 b c = simp and_false

-- ---- every white space character is measured

-- the number's range tells how many bytes it has
module _ (c : ℕ) (r : List ℕ) where
  measured_1 : c < 0x80 → white1 c ≡ true → white_len (encode c ++ r) ≡ length (encode c)
  unfolding white_of
  measured_1 h e = rw (lt-ltb c 0x80 h, e)

  measured_2 : 0x80 ≤ c → c < 0x800 → white2 (0xC0 + c / 64) (0x80 + c % 64) ≡ true → white_len (encode c ++ r) ≡ length (encode c)
  unfolding white_of
  measured_2 h k e = rw (le-ltb c 0x80 h, lt-ltb c 0x800 k, not_white1 (0xC0 + c / 64) (omega arith), e)

  measured_3 : 0x1000 ≤ c → c < 0x10000 → white3 (0xE0 + c / 4096) (0x80 + c / 64 % 64) (0x80 + c % 64) ≡ true → white_len (encode c ++ r) ≡ length (encode c)
  unfolding white_of
  measured_3 h k e =
      rw (
        le-ltb c 0x80 (omega arith),
        le-ltb c 0x800 (omega arith),
        lt-ltb c 0x10000 k,
        not_white1 (0xE0 + c / 4096) (omega arith),
        not_white2 (0xE0 + c / 4096) (0x80 + c / 64 % 64) (λ e. omega arith),
        e,
      )

-- 2000 to 203F are E2 80 and a last byte
e2_80 : (c : ℕ) (r : List ℕ) → 0x2000 ≤ c → c < 0x2040 → within 0x80 (0x80 + c % 64) 0x8A || (within 0xA8 (0x80 + c % 64) 0xA9 || eqb (0x80 + c % 64) 0xAF) ≡ true → white_len (encode c ++ r) ≡ length (encode c)
unfolding white3
e2_80 c r h k e =
    let x : 0xE0 + c / 4096 ≡ 0xE2 = omega arith in
    let y : 0x80 + c / 64 % 64 ≡ 0x80 = omega arith in
    measured_3 c r (omega arith) (omega arith) (rw (x, y, e))

pub measured : (c : ℕ) (r : List ℕ) → white_space c ≡ true → white_len (encode c ++ r) ≡ length (encode c)
unfolding white_of white1 white2 white3
measured c r e =
    ⊎_elim
    (λ f. let w = within_is 0x0009 c 0x000D f in measured_1 c r (omega arith) (rw f))
    (λ g1. ⊎_elim
    (λ f. rw (eqb-true c 0x0020 f))
    (λ g2. ⊎_elim
    (λ f. rw (eqb-true c 0x0085 f))
    (λ g3. ⊎_elim
    (λ f. rw (eqb-true c 0x00A0 f))
    (λ g4. ⊎_elim
    (λ f. rw (eqb-true c 0x1680 f))
    (λ g5. ⊎_elim
    (λ f. let w = within_is 0x2000 c 0x200A f in e2_80 c r (omega arith) (omega arith) (rw (within_yes 0x80 (0x80 + c % 64) 0x8A (omega arith) (omega arith))))
    (λ g6. ⊎_elim
    (λ f. let w = within_is 0x2028 c 0x2029 f in e2_80 c r (omega arith) (omega arith) (rw (within_over 0x80 (0x80 + c % 64) 0x8A (omega arith), within_yes 0xA8 (0x80 + c % 64) 0xA9 (omega arith) (omega arith))))
    (λ g7. ⊎_elim
    (λ f. rw (eqb-true c 0x202F f))
    (λ g8. ⊎_elim
    (λ f. rw (eqb-true c 0x205F f))
    (λ f. rw (eqb-true c 0x3000 f))
    (or_cases (eqb c 0x205F) (eqb c 0x3000) g8))
    (or_cases (eqb c 0x202F) (eqb c 0x205F || eqb c 0x3000) g7))
    (or_cases (within 0x2028 c 0x2029) (eqb c 0x202F || (eqb c 0x205F || eqb c 0x3000)) g6))
    (or_cases (within 0x2000 c 0x200A) (within 0x2028 c 0x2029 || (eqb c 0x202F || (eqb c 0x205F || eqb c 0x3000))) g5))
    (or_cases (eqb c 0x1680) (within 0x2000 c 0x200A || (within 0x2028 c 0x2029 || (eqb c 0x202F || (eqb c 0x205F || eqb c 0x3000)))) g4))
    (or_cases (eqb c 0x00A0) (eqb c 0x1680 || (within 0x2000 c 0x200A || (within 0x2028 c 0x2029 || (eqb c 0x202F || (eqb c 0x205F || eqb c 0x3000))))) g3))
    (or_cases (eqb c 0x0085) (eqb c 0x00A0 || (eqb c 0x1680 || (within 0x2000 c 0x200A || (within 0x2028 c 0x2029 || (eqb c 0x202F || (eqb c 0x205F || eqb c 0x3000)))))) g2))
    (or_cases (eqb c 0x0020) (eqb c 0x0085 || (eqb c 0x00A0 || (eqb c 0x1680 || (within 0x2000 c 0x200A || (within 0x2028 c 0x2029 || (eqb c 0x202F || (eqb c 0x205F || eqb c 0x3000))))))) g1))
    (or_cases (within 0x0009 c 0x000D) (eqb c 0x0020 || (eqb c 0x0085 || (eqb c 0x00A0 || (eqb c 0x1680 || (within 0x2000 c 0x200A || (within 0x2028 c 0x2029 || (eqb c 0x202F || (eqb c 0x205F || eqb c 0x3000)))))))) e)

-- ---- what is measured is a white space character

-- a character given by its number
from : (c : ℕ) {w : List ℕ} → encode c ≡ w → white_space c ≡ true → White w
from c e h = subst White e (white c h)

-- E2 80 and a last byte d are the number 1F80 + d
e2_80_code : (d : ℕ) → 0x80 ≤ d → d ≤ 0xBF → encode (0x1F80 + d) ≡ 0xE2 ∷ 0x80 ∷ d ∷ []
e2_80_code d p q =
    let n : ℕ = 0x1F80 + d in
    let x : 0xE0 + n / 4096 ≡ 0xE2 = omega arith in
    let y : 0x80 + n / 64 % 64 ≡ 0x80 = omega arith in
    let z : 0x80 + n % 64 ≡ d = omega arith in
    rw (le-ltb n 0x80 (omega arith), le-ltb n 0x800 (omega arith), lt-ltb n 0x10000 (omega arith), x, y, z)

-- past the smaller ones
from_2000 : (c : ℕ) → 0x2000 ≤ c → white_space c ≡ (within 0x2000 c 0x200A || (within 0x2028 c 0x2029 || (eqb c 0x202F || (eqb c 0x205F || eqb c 0x3000))))
from_2000 c h =
    rw (
      within_over 0x0009 c 0x000D (omega arith),
      ne_eqb c 0x0020 (λ e. omega arith),
      ne_eqb c 0x0085 (λ e. omega arith),
      ne_eqb c 0x00A0 (λ e. omega arith),
      ne_eqb c 0x1680 (λ e. omega arith),
    )

last_80 : (d : ℕ) → within 0x80 d 0x8A || (within 0xA8 d 0xA9 || eqb d 0xAF) ≡ true → White (0xE2 ∷ 0x80 ∷ d ∷ [])
last_80 d e =
    ⊎_elim
    (λ f. let w = within_is 0x80 d 0x8A f in from (0x1F80 + d) (e2_80_code d (omega arith) (omega arith)) (rw (from_2000 (0x1F80 + d) (omega arith), within_yes 0x2000 (0x1F80 + d) 0x200A (omega arith) (omega arith))))
    (λ f. ⊎_elim
    (λ g. let w = within_is 0xA8 d 0xA9 g in from (0x1F80 + d) (e2_80_code d (omega arith) (omega arith)) (rw (from_2000 (0x1F80 + d) (omega arith), within_over 0x2000 (0x1F80 + d) 0x200A (omega arith), within_yes 0x2028 (0x1F80 + d) 0x2029 (omega arith) (omega arith))))
    (λ g. rw (eqb-true d 0xAF g) (white 0x202F refl))
    (or_cases (within 0xA8 d 0xA9) (eqb d 0xAF) f))
    (or_cases (within 0x80 d 0x8A) (within 0xA8 d 0xA9 || eqb d 0xAF) e)

-- three bytes that are given ones
these : (b c d x y z : ℕ) → eqb b x && (eqb c y && eqb d z) ≡ true → b ∷ c ∷ d ∷ [] ≡ x ∷ y ∷ z ∷ []
these b c d x y z e =
    let r = and_right (eqb b x) (eqb c y && eqb d z) e in
    rw (
      eqb-true b x (and_left (eqb b x) (eqb c y && eqb d z) e),
      eqb-true c y (and_left (eqb c y) (eqb d z) r),
      eqb-true d z (and_right (eqb c y) (eqb d z) r),
    )

-- after E2
abbrev e2 : ℕ → ℕ → Bool
e2 c d = (eqb c 0x80 && (within 0x80 d 0x8A || (within 0xA8 d 0xA9 || eqb d 0xAF))) || (eqb c 0x81 && eqb d 0x9F)

after_e2 : (c d : ℕ) → e2 c d ≡ true → White (0xE2 ∷ c ∷ d ∷ [])
after_e2 c d e =
    ⊎_elim
    (λ f. rw (eqb-true c 0x80 (and_left (eqb c 0x80) (within 0x80 d 0x8A || (within 0xA8 d 0xA9 || eqb d 0xAF)) f)) (last_80 d (and_right (eqb c 0x80) (within 0x80 d 0x8A || (within 0xA8 d 0xA9 || eqb d 0xAF)) f)))
    (λ f. rw (eqb-true c 0x81 (and_left (eqb c 0x81) (eqb d 0x9F) f), eqb-true d 0x9F (and_right (eqb c 0x81) (eqb d 0x9F) f)) (white 0x205F refl))
    (or_cases (eqb c 0x80 && (within 0x80 d 0x8A || (within 0xA8 d 0xA9 || eqb d 0xAF))) (eqb c 0x81 && eqb d 0x9F) e)

is_1 : (b : ℕ) → white1 b ≡ true → White (b ∷ [])
unfolding white1
is_1 b e =
    ⊎_elim
    (λ f. let w = within_is 0x09 b 0x0D f in from b (rw (lt-ltb b 0x80 (omega arith))) (rw f))
    (λ f. rw (eqb-true b 0x20 f) (white 0x20 refl))
    (or_cases (within 0x09 b 0x0D) (eqb b 0x20) e)

is_2 : (b c : ℕ) → white2 b c ≡ true → White (b ∷ c ∷ [])
unfolding white2
is_2 b c e =
    rw (eqb-true b 0xC2 (and_left (eqb b 0xC2) (eqb c 0x85 || eqb c 0xA0) e))
    (⊎_elim
    (λ f. rw (eqb-true c 0x85 f) (white 0x85 refl))
    (λ f. rw (eqb-true c 0xA0 f) (white 0xA0 refl))
    (or_cases (eqb c 0x85) (eqb c 0xA0) (and_right (eqb b 0xC2) (eqb c 0x85 || eqb c 0xA0) e)))

is_3 : (b c d : ℕ) → white3 b c d ≡ true → White (b ∷ c ∷ d ∷ [])
unfolding white3
is_3 b c d e =
    ⊎_elim
    (λ f. ⊎_elim
    (λ g. rw (these b c d 0xE1 0x9A 0x80 g) (white 0x1680 refl))
    (λ g. rw (eqb-true b 0xE2 (and_left (eqb b 0xE2) (e2 c d) g)) (after_e2 c d (and_right (eqb b 0xE2) (e2 c d) g)))
    (or_cases (eqb b 0xE1 && (eqb c 0x9A && eqb d 0x80)) (eqb b 0xE2 && e2 c d) f))
    (λ f. rw (these b c d 0xE3 0x80 0x80 f) (white 0x3000 refl))
    (or_cases ((eqb b 0xE1 && (eqb c 0x9A && eqb d 0x80)) || (eqb b 0xE2 && e2 c d)) (eqb b 0xE3 && (eqb c 0x80 && eqb d 0x80)) e)

pub at_end : white_len [] ≡ 0
unfolding white_of white1 white2 white3
at_end = refl

pub found : (t : List ℕ) → (white_len t ≡ 0) ⊎ (White (take (white_len t) t) × (white_len t ≤ length t))
unfolding white_of
found [] = inl at_end
found (b ∷ []) =
    by_test (white1 b)
    (λ e. inr (rw e (is_1 b e, omega arith)))
    (λ e. inl (rw (e, short2 b, short3 b 0)))
found (b ∷ c ∷ []) =
    by_test (white1 b)
    (λ e. inr (rw e (is_1 b e, omega arith)))
    (λ e. by_test (white2 b c)
    (λ f. inr (rw (e, f) (is_2 b c f, omega arith)))
    (λ f. inl (rw (e, f, short3 b c))))
found (b ∷ c ∷ d ∷ t) =
    by_test (white1 b)
    (λ e. inr (rw e (is_1 b e, omega arith)))
    (λ e. by_test (white2 b c)
    (λ f. inr (rw (e, f) (is_2 b c f, omega arith)))
    (λ f. by_test (white3 b c d)
    (λ g. inr (rw (e, f, g) (is_3 b c d g, omega arith)))
    (λ g. inl (rw (e, f, g)))))

pub measures : {w : List ℕ} → White w → (r : List ℕ) → white_len (w ++ r) ≡ length w
measures (white c e) r = measured c r e

pub no_longer : (t : List ℕ) → white_len t ≤ length t
no_longer t = ⊎_elim (λ e. omega arith) (λ e. e.1) (found t)
