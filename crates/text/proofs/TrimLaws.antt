-- Trimming: what the library's methods leave is what is computed, and which ends need be trimmed at all. Assumes nothing.
use Rattle.std.proofs.Common.{◌≡◌, ℕ, zero, suc, ◌-◌, ◌<◌, ◌≤◌, false, List, [], ◌∷◌, ◌++◌, length, get_or, take, drop, sym, refl, ap, ◌∙◌, sub-one, arith, take-suc, ne_eqb}
use lib.Seq.{take-length}
use Rattle.std.specs.Char.{is_ascii_whitespace}
use Rattle.std.specs.Str.{IsAsciiWhitespaceBelow, IsAsciiWhitespaceFrom, IsTrimAsciiStart, IsTrimAsciiEnd}
use Rattle.text.specs.Digits.{digit_of}
use Rattle.text.specs.Trim.{blank, trim_start, before, trim_end, trimmed}
use Rattle.text.proofs.Bools.{by_test}

-- ---- what the library leaves

-- its white space are the blanks
pub whitespace_is : (b : ℕ) → is_ascii_whitespace b ≡ blank b
whitespace_is b = grind arith

dropped : (s : List ℕ) (n : ℕ) → n ≤ length s → IsAsciiWhitespaceBelow s n → (n < length s → is_ascii_whitespace (get_or s n 0) ≡ false) → drop n s ≡ trim_start s
unfolding trim_start
dropped [] zero h below at = refl
dropped [] (suc n) h below at = refl
dropped (b ∷ t) zero h below at = rw (← whitespace_is b, at (omega arith)) refl
dropped (b ∷ t) (suc n) h below at =
    rw (← whitespace_is b, below 0 (omega arith))
    (dropped t n (omega (arith, h)) (λ i p. below (suc i) (omega (arith, p))) (λ p. at (omega (arith, p))))

pub start_is : {s r : List ℕ} → IsTrimAsciiStart s r → r ≡ trim_start s
start_is {s} {r} p = p.1 ∙ dropped s p.0 (omega (arith, p.2)) p.3 p.4

taken : (s : List ℕ) (n : ℕ) → n ≤ length s → IsAsciiWhitespaceFrom s n → (0 < n → is_ascii_whitespace (get_or s (n - 1) 0) ≡ false) → take n s ≡ trim_end s
unfolding trim_end
taken [] zero h from at = refl
taken [] (suc n) h from at = refl
taken (b ∷ t) zero h from at =
    rw (← taken t 0 (omega arith) (λ i p q. from (suc i) (omega arith) (omega (arith, q))) (λ p. absurd (omega (arith, p))), ← whitespace_is b, from 0 (omega arith) (omega arith)) refl
taken (b ∷ t) (suc zero) h from at =
    rw (← taken t 0 (omega arith) (λ i p q. from (suc i) (omega arith) (omega (arith, q))) (λ p. absurd (omega (arith, p))), ← whitespace_is b, at (omega arith)) refl
taken (b ∷ []) (suc (suc n)) h from at = absurd (omega (arith, h))
taken (b ∷ c ∷ t) (suc (suc n)) h from at =
    rw (← taken (c ∷ t) (suc n) (omega (arith, h)) (λ i p q. from (suc i) (omega (arith, p)) (omega (arith, q))) (λ p. rw sub-one (rw sub-one at (at (omega arith))))) refl

pub end_is : {s r : List ℕ} → IsTrimAsciiEnd s r → r ≡ trim_end s
end_is {s} {r} p = p.1 ∙ taken s p.0 p.3 p.4 p.5

-- ---- the last byte

-- a byte before a text that has a last byte
before_snoc : (a b : ℕ) (t : List ℕ) → before a (t ++ (b ∷ [])) ≡ a ∷ (t ++ (b ∷ []))
before_snoc a b [] = refl
before_snoc a b (c ∷ t) = refl

pub snoc_kept : (t : List ℕ) (b : ℕ) → blank b ≡ false → trim_end (t ++ (b ∷ [])) ≡ t ++ (b ∷ [])
unfolding trim_end
snoc_kept [] b e = rw e
snoc_kept (a ∷ t) b e = rw (snoc_kept t b e) (before_snoc a b t)

-- a text of at least n bytes up to its byte n, and that byte
last : (s : List ℕ) (n : ℕ) → 0 < n → n ≤ length s → take n s ≡ take (n - 1) s ++ (get_or s (n - 1) 0 ∷ [])
last s zero p h = absurd (omega arith)
last s (suc n) p h = rw sub-one (take-suc s n 0 h)

-- ---- a digit is no blank

pub digit_kept : (b d : ℕ) → b < 256 → d ≡ digit_of b → d < 10 → blank b ≡ false
digit_kept b d h e g =
    rw (
      ne_eqb b 0x09 (λ q. omega arith),
      ne_eqb b 0x0A (λ q. omega arith),
      ne_eqb b 0x0C (λ q. omega arith),
      ne_eqb b 0x0D (λ q. omega arith),
      ne_eqb b 0x20 (λ q. omega arith),
    )

-- a text that begins with no blank, and one that ends with none
pub start_kept : (s : List ℕ) → blank (get_or s 0 0) ≡ false → trim_start s ≡ s
unfolding trim_start
start_kept [] e = refl
start_kept (b ∷ t) e = rw e

pub end_kept : (s : List ℕ) → 1 ≤ length s → blank (get_or s (length s - 1) 0) ≡ false → trim_end s ≡ s
end_kept s h e = rw whole (snoc_kept (take (length s - 1) s) (get_or s (length s - 1) 0) e)
  where
    whole : s ≡ take (length s - 1) s ++ (get_or s (length s - 1) 0 ∷ [])
    whole = rw (take-length s) at (last s (length s) h (omega arith))

-- ---- a text that need be trimmed at one end only, or at none

start_snoc : (t : List ℕ) (b : ℕ) → blank b ≡ false → trim_start (t ++ (b ∷ [])) ≡ trim_start t ++ (b ∷ [])
unfolding trim_start
start_snoc [] b e = rw e
start_snoc (a ∷ t) b e = by_test (blank a) (λ f. rw (f, start_snoc t b e)) (λ f. rw f)

-- the first byte and the last
module _ (s : List ℕ) where
  pub end_only : blank (get_or s 0 0) ≡ false → trim_end s ≡ trimmed s
  end_only e = ap trim_end (sym (start_kept s e))

  pub start_only : 0 < length s → blank (get_or s (length s - 1) 0) ≡ false → trim_start s ≡ trimmed s
  start_only h e = rw whole (start_snoc t b e ∙ sym (snoc_kept (trim_start t) b e) ∙ ap trim_end (sym (start_snoc t b e)))
    where
      b : ℕ
      b = get_or s (length s - 1) 0

      t : List ℕ
      t = take (length s - 1) s

      whole : s ≡ t ++ (b ∷ [])
      whole = rw (take-length s) at (last s (length s) h (omega arith))

  pub neither : 0 < length s → blank (get_or s 0 0) ≡ false → blank (get_or s (length s - 1) 0) ≡ false → s ≡ trimmed s
  neither h e f = sym (end_kept s h f) ∙ end_only e

  pub nothing : length s ≡ 0 → s ≡ trimmed s
  unfolding trim_start trim_end
  nothing h = by s h
    where
      by : (s : List ℕ) → length s ≡ 0 → s ≡ trimmed s
      by [] h = refl
      by (b ∷ t) h = absurd (omega arith)
