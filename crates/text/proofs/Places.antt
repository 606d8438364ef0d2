-- Bytes by their places: a digit and a sign stand within a text, the last byte, and a text by its first bytes. Assumes nothing.
use Rattle.std.proofs.Common.{◌≡◌, ℕ, suc, ◌-◌, ◌<◌, true, false, eqb, ltb, ◌⊎◌, List, [], ◌∷◌, ◌++◌, length, get_or, drop, sym, refl, ap, ◌∙◌, ⊎_elim, arith, length-append, get_or-append-add, ltb-false, ltb-true, ne_eqb, eqb-true}
use lib.ListN.{get_or-eq_default}
use Rattle.text.specs.Digits.{is_digit}
use Rattle.text.proofs.Bools.{by_test, both_ways, within_is}

-- ---- a digit stands within the text, and is no other sign

pub inside : (t : List ℕ) (i : ℕ) → is_digit (get_or t i 0) ≡ true → i < length t
inside t i e =
    by_test (ltb i (length t)) (ltb-true i (length t))
    (λ h. both_ways (is_digit (get_or t i 0)) (rw (get_or-eq_default t 0 {n = i} (ltb-false i (length t) h))) e)

-- a sign that is tested for stands within the text too
pub sign_inside : (t : List ℕ) (i c : ℕ) → eqb (get_or t i 0) (suc c) ≡ true → i < length t
sign_inside t i c e =
    by_test (ltb i (length t)) (ltb-true i (length t))
    (λ h. let z : 0 ≡ suc c = sym (get_or-eq_default t 0 {n = i} (ltb-false i (length t) h)) ∙ eqb-true (get_or t i 0) (suc c) e in absurd (omega arith))

pub not_sign : (b c : ℕ) → is_digit b ≡ true → (c < 0x30) ⊎ (0x39 < c) → eqb b c ≡ false
not_sign b c e h = ne_eqb b c (λ q. let w = within_is 0x30 b 0x39 e in ⊎_elim (λ l. omega arith) (λ l. omega arith) h)

-- ---- the last byte

-- the last byte is that of what stands last
pub last_of : (p q : List ℕ) → 0 < length q → get_or (p ++ q) (length (p ++ q) - 1) 0 ≡ get_or q (length q - 1) 0
last_of p q h = ap (λ (n : ℕ). get_or (p ++ q) n 0) (omega (arith, length-append p q)) ∙ get_or-append-add p q (length q - 1) 0

-- ---- a text by its first bytes

pub six : (t : List ℕ) → 5 < length t → t ≡ get_or t 0 0 ∷ get_or t 1 0 ∷ get_or t 2 0 ∷ get_or t 3 0 ∷ get_or t 4 0 ∷ get_or t 5 0 ∷ drop 6 t
six [] h = absurd (omega arith)
six (a ∷ []) h = absurd (omega arith)
six (a ∷ b ∷ []) h = absurd (omega arith)
six (a ∷ b ∷ c ∷ []) h = absurd (omega arith)
six (a ∷ b ∷ c ∷ d ∷ []) h = absurd (omega arith)
six (a ∷ b ∷ c ∷ d ∷ e ∷ []) h = absurd (omega arith)
six (a ∷ b ∷ c ∷ d ∷ e ∷ f ∷ t) h = refl

pub seven : (t : List ℕ) → 6 < length t → t ≡ get_or t 0 0 ∷ get_or t 1 0 ∷ get_or t 2 0 ∷ get_or t 3 0 ∷ get_or t 4 0 ∷ get_or t 5 0 ∷ get_or t 6 0 ∷ drop 7 t
seven [] h = absurd (omega arith)
seven (a ∷ t) h = ap (λ (r : List ℕ). a ∷ r) (six t (omega arith))

pub eight : (t : List ℕ) → 7 < length t → t ≡ get_or t 0 0 ∷ get_or t 1 0 ∷ get_or t 2 0 ∷ get_or t 3 0 ∷ get_or t 4 0 ∷ get_or t 5 0 ∷ get_or t 6 0 ∷ get_or t 7 0 ∷ drop 8 t
eight [] h = absurd (omega arith)
eight (a ∷ t) h = ap (λ (r : List ℕ). a ∷ r) (seven t (omega arith))

pub ten : (t : List ℕ) → 9 < length t → t ≡ get_or t 0 0 ∷ get_or t 1 0 ∷ get_or t 2 0 ∷ get_or t 3 0 ∷ get_or t 4 0 ∷ get_or t 5 0 ∷ get_or t 6 0 ∷ get_or t 7 0 ∷ get_or t 8 0 ∷ get_or t 9 0 ∷ drop 10 t
ten [] h = absurd (omega arith)
ten (a ∷ []) h = absurd (omega arith)
ten (a ∷ b ∷ t) h = ap (λ (r : List ℕ). a ∷ b ∷ r) (eight t (omega arith))
