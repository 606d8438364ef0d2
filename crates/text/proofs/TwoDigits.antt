-- Tests of the code, on bytes less 48, are tests of the definitions, on bytes: for a sign, for a digit, and for two digits at a place.
-- Assumes nothing.
use Rattle.std.proofs.Common.{◌≡◌, ℕ, ◌+◌, ◌<◌, Bool, true, false, cond, not, ◌&&◌, eqb, leb, List, length, get_or, drop, sym, refl, ap, subst, ◌∙◌, Option, Some, None, add_assoc, arith, get_or-drop, eq-eqb, ne_eqb, eqb-true, leb-false, leb-true}
use lib.ListN.{get_or-eq_default}
use Rattle.std.proofs.lemmas.Option.{cond_some}
use borrow.Author.Tests.{eqb-false}
use Rattle.text.specs.Digits.{is_digit, digit_of, two_digits, two_at}
use Rattle.text.proofs.Bools.{and_left, and_right, and_false, by_test, within_is}
use Rattle.text.proofs.DigitLaws.{is_digit_lem, no_digit}

-- ---- a byte b: the sign with the byte s, as a digit k, and a digit

pub sign : (b k s : ℕ) → b < 256 → s < 256 → k ≡ digit_of s → eqb (digit_of b) k ≡ eqb b s
sign b k s fb fs e =
    by_test (eqb b s)
    (λ t. rw t (eq-eqb (digit_of b) k (ap digit_of (eqb-true b s t) ∙ sym e)))
    (λ t. rw t (ne_eqb (digit_of b) k (λ q. eqb-false b s t (omega arith))))

pub no_digit_test : (b : ℕ) → b < 256 → leb 10 (digit_of b) ≡ not (is_digit b)
no_digit_test b fb =
    by_test (leb 10 (digit_of b))
    (λ t. rw (t, no_digit b (digit_of b) fb refl (leb-true 10 (digit_of b) t)))
    (λ t. rw (t, is_digit_lem b (digit_of b) fb refl (leb-false 10 (digit_of b) t)))

-- ---- two digits at a place

-- their number, where both are digits
abbrev pub two_or : List ℕ → ℕ → Option ℕ
two_or t i = cond (two_digits t i) (Some (two_at t i)) None

pub two_below : (t : List ℕ) (i : ℕ) → two_digits t i ≡ true → two_at t i < 100
two_below t i e = omega (
  arith,
  within_is 0x30 (get_or t i 0) 0x39 (and_left (is_digit (get_or t i 0)) (is_digit (get_or t (i + 1) 0)) e),
  within_is 0x30 (get_or t (i + 1) 0) 0x39 (and_right (is_digit (get_or t i 0)) (is_digit (get_or t (i + 1) 0)) e),
)

-- past the end there are no two digits
pub past_end : (t : List ℕ) (i : ℕ) → length t < i + 2 → two_digits t i ≡ false
past_end t i h = rw (get_or-eq_default t 0 {n = i + 1} (omega arith)) (and_false (is_digit (get_or t i 0)))

-- ---- place i of the rest from n on, which is place n + i, and what the code has of it

two_from : (n : ℕ) (s : List ℕ) (i : ℕ) → two_or s (n + i) ≡ two_or (drop n s) i
two_from n s i = rw (get_or-drop n s i 0, get_or-drop n s (i + 1) 0, ← add_assoc n i 1)

module _ (n : ℕ) (s : List ℕ) (i : ℕ) {o : Option ℕ} (e : o ≡ two_or s (n + i)) where
  pub two_some : {x : ℕ} → o ≡ Some x → (two_digits (drop n s) i ≡ true) × (x ≡ two_at (drop n s) i) × (x < 100)
  two_some {x} h =
      let r = cond_some (two_digits (drop n s) i) (two_at (drop n s) i) x (sym (two_from n s i) ∙ sym e ∙ h) in
      (r.0, sym r.1, subst (λ k. k < 100) r.1 (two_below (drop n s) i r.0))

module _ (n : ℕ) (s : List ℕ) (i : ℕ) {v : ℕ} where
  pub sign_test : (k c : ℕ) → get_or s (n + i) 0 < 256 → c < 256 → k ≡ digit_of c → v ≡ digit_of (get_or s (n + i) 0) → eqb v k ≡ eqb (get_or (drop n s) i 0) c
  sign_test k c fb fc ek e = rw (e, get_or-drop n s i 0) (sign (get_or s (n + i) 0) k c fb fc ek)

-- ---- all of five tests

pub all_five : (a b c d e : Bool) → a && (b && (c && (d && e))) ≡ true → (a ≡ true) × (b ≡ true) × (c ≡ true) × (d ≡ true) × (e ≡ true)
all_five a b c d e h =
    let h1 : b && (c && (d && e)) ≡ true = and_right a (b && (c && (d && e))) h in
    let h2 : c && (d && e) ≡ true = and_right b (c && (d && e)) h1 in
    let h3 : d && e ≡ true = and_right c (d && e) h2 in
    (and_left a (b && (c && (d && e))) h, and_left b (c && (d && e)) h1, and_left c (d && e) h2, and_left d e h3, and_right d e h3)
