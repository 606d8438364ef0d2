-- The letters of a unit word as a loop packs them: one letter more, and where no longer word is a unit. Assumes nothing.
use mathlib.Core.Path.{◌≡◌, refl, sym, ◌∙◌}
use mathlib.Core.Bool.{true, false, false≢true}
use mathlib.Core.List.{List, [], ◌∷◌, ◌++◌, append_assoc, append-nil}
use Rattle.std.specs.Prelude.{None, Some}
use Prim.Native.Nat.{ℕ, suc, zero, ◌+◌, ◌-◌, ◌*◌, ◌≤◌, ◌<◌}
use native.Mathlib.Nat.{sub-zero}
use native.Mathlib.Omega.{arith}
use lib.Dec.{eqb}
use lib.ListN.{length, get_or, take, drop, length-drop, take-append-drop}
use lib.Seq.{drop-drop, take-add, take_all}
use borrow.Author.Tests.{ne_eqb}
use Rattle.text.specs.Digits.{within}
use Rattle.text.proofs.Bools.{and_false, by_test, within_is}
use Rattle.unit.specs.Units.{spellings, low, kelvin, lower, unit_of}
use Rattle.unit.specs.Keys.{lowered, key_on, by_key, plain_letter, letter_of, front_of, Packed, LettersIs}
use Rattle.unit.specs.declared.letters.Letter.{Letter}
use Rattle.unit.specs.declared.letters.Letters.{Letters as LettersRead}
use Rattle.unit.proofs.Spelling.{Letters, lower_letters}
use Rattle.unit.proofs.Keying.{unit_by_key, not_lowered, too_large}

-- ---- a letter, by its first byte

-- U+212A begins past ASCII
not_kelvin : (b c d : ℕ) → b < 0xE2 → kelvin b c d ≡ false
unfolding kelvin
not_kelvin b c d h = rw (ne_eqb b 0xE2 (λ e. omega arith))

-- ---- the letter at the front of a text

lower_cons : (b : ℕ) (t : List ℕ) → kelvin b (get_or t 0 0) (get_or t 1 0) ≡ false → lower (b ∷ t) ≡ low b ∷ lower t
unfolding lower
lower_cons b [] e = refl
lower_cons b (c ∷ []) e = refl
lower_cons b (c ∷ d ∷ t) e = rw e

-- the width of the letter l is in the text, and its bytes count as one digit of the key
pub record Fronts (t : List ℕ) (l : Letter) : Type 0 where
  pub wide : 0 < l.width
  pub within_t : l.width ≤ length t
  pub most : l.code ≤ 26
  pub key_on_lem : (k : ℕ) (x : List ℕ) → key_on k (lower (take l.width t ++ x)) ≡ key_on (k * 32 + l.code) (lower x)
  pub lowered_on : (x : List ℕ) → lowered (lower (take l.width t ++ x)) ≡ lowered (lower x)

plain_front : (b : ℕ) (t : List ℕ) → within 0x61 (low b) 0x7A ≡ true → b < 0xE2 → Fronts (b ∷ t) (record { code = low b - 0x60; width = 1 })
unfolding key_on lowered
plain_front b t h l =
    let r = within_is 0x61 (low b) 0x7A h in
    record {
      wide = omega arith;
      within_t = omega arith;
      most = omega arith;
      key_on_lem = λ k x. rw (lower_cons b x (not_kelvin b (get_or x 0 0) (get_or x 1 0) l));
      lowered_on = λ x. rw (lower_cons b x (not_kelvin b (get_or x 0 0) (get_or x 1 0) l), h);
    }

low_ascii : (b : ℕ) → within 0x61 (low b) 0x7A ≡ true → b < 0xE2
unfolding low
low_ascii b h =
    by_test (within 0x41 b 0x5A)
    (λ p. omega (arith, within_is 0x41 b 0x5A p))
    (λ p. omega (arith, within_is 0x61 b 0x7A (rw p at h)))

kelvin_front : (t : List ℕ) → kelvin (get_or t 0 0) (get_or t 1 0) (get_or t 2 0) ≡ true → Fronts t (record { code = 11; width = 3 })
unfolding kelvin lower key_on lowered
kelvin_front [] e = absurd (false≢true e)
kelvin_front (b ∷ []) e = absurd (false≢true (sym (and_false (eqb b 0xE2)) ∙ e))
kelvin_front (b ∷ c ∷ []) e =
    absurd (false≢true (sym (rw (and_false (eqb c 0x84)) (and_false (eqb b 0xE2))) ∙ e))
kelvin_front (b ∷ c ∷ d ∷ t) e =
    record {
      wide = omega arith;
      within_t = omega arith;
      most = omega arith;
      key_on_lem = λ k x. rw e;
      lowered_on = λ x. rw e;
    }

-- one of the two
letter_cases : (b c d : ℕ) → (kelvin b c d ≡ true → letter_of b c d ≡ Some (record { code = 11; width = 3 })) × (kelvin b c d ≡ false → letter_of b c d ≡ plain_letter (low b))
unfolding letter_of
letter_cases b c d = (λ k. rw k, λ k. rw k)

no_code : (b : ℕ) → within 0x61 b 0x7A ≡ false → plain_letter b ≡ None
unfolding plain_letter
no_code b w = rw w

is_code : (b : ℕ) → within 0x61 b 0x7A ≡ true → plain_letter b ≡ Some (record { code = b - 0x60; width = 1 })
unfolding plain_letter
is_code b w = rw w

module _ (b c d : ℕ) (e : None ≡ letter_of b c d) where
  no_kelvin : kelvin b c d ≡ false
  no_kelvin = by_test (kelvin b c d) (λ k. let q = e ∙ (letter_cases b c d).0 k in cc) (λ k. k)

  no_plain : within 0x61 (low b) 0x7A ≡ false
  no_plain =
      by_test (within 0x61 (low b) 0x7A)
      (λ w. let q = e ∙ (letter_cases b c d).1 no_kelvin ∙ is_code (low b) w in cc)
      (λ w. w)

some_is : {l m : Letter} → Some l ≡ Some m → l ≡ m
some_is e = cc

-- a letter, or none
pub front : (t : List ℕ) (l : Letter) → Some l ≡ front_of t → Fronts t l
unfolding letter_of plain_letter kelvin low
front [] l e = cc
front (b ∷ t) l e =
    by_test (kelvin b (get_or t 0 0) (get_or t 1 0))
    (λ k. rw (some_is (e ∙ (letter_cases b (get_or t 0 0) (get_or t 1 0)).0 k)) (kelvin_front (b ∷ t) k))
    (λ k. by_test (within 0x61 (low b) 0x7A)
    (λ w. rw (some_is (e ∙ (letter_cases b (get_or t 0 0) (get_or t 1 0)).1 k ∙ is_code (low b) w)) (plain_front b t w (low_ascii b w)))
    (λ w. let q = e ∙ (letter_cases b (get_or t 0 0) (get_or t 1 0)).1 k ∙ no_code (low b) w in cc))

pub no_front : (t : List ℕ) → 0 < length t → None ≡ front_of t → (n : ℕ) → 0 < n → lowered (lower (take n t)) ≡ false
unfolding lower lowered
no_front [] p e n h = absurd (omega arith)
no_front (b ∷ t) p e zero h = absurd (omega arith)
no_front (b ∷ []) p e (suc zero) h = rw (no_plain b 0 0 e)
no_front (b ∷ []) p e (suc (suc n)) h = rw (no_plain b 0 0 e)
no_front (b ∷ c ∷ t) p e (suc zero) h = rw (no_plain b c (get_or t 0 0) e)
no_front (b ∷ c ∷ []) p e (suc (suc zero)) h = rw (no_plain b c 0 e)
no_front (b ∷ c ∷ []) p e (suc (suc (suc n))) h = rw (no_plain b c 0 e)
no_front (b ∷ c ∷ d ∷ t) p e (suc (suc zero)) h = rw (no_plain b c d e)
no_front (b ∷ c ∷ d ∷ t) p e (suc (suc (suc n))) h = rw (no_kelvin b c d e, no_plain b c d e)

-- ---- letters from a place on

key_least : (k : ℕ) (w : List ℕ) → k ≤ key_on k w
unfolding key_on
key_least k [] = omega arith
key_least k (c ∷ w) = omega (arith, key_least (k * 32 + (c - 0x60)) w)

key_grown : (k : ℕ) (w : List ℕ) → 0 < length w → k * 32 ≤ key_on k w
unfolding key_on
key_grown k [] h = absurd (omega arith)
key_grown k (c ∷ w) h = omega (arith, key_least (k * 32 + (c - 0x60)) w)

lower_some : (t : List ℕ) (m : ℕ) → 0 < length t → 0 < m → 0 < length (lower (take m t))
unfolding lower
lower_some [] m h p = absurd (omega arith)
lower_some (b ∷ t) zero h p = absurd (omega arith)
lower_some (b ∷ []) (suc zero) h p = omega arith
lower_some (b ∷ []) (suc (suc m)) h p = omega arith
lower_some (b ∷ c ∷ t) (suc zero) h p = omega arith
lower_some (b ∷ c ∷ []) (suc (suc zero)) h p = omega arith
lower_some (b ∷ c ∷ []) (suc (suc (suc m))) h p = omega arith
lower_some (b ∷ c ∷ d ∷ t) (suc (suc zero)) h p = omega arith
lower_some (b ∷ c ∷ d ∷ t) (suc (suc (suc m))) h p =
    by_test (kelvin b c d) (λ e. rw e (omega arith)) (λ e. rw e (omega arith))

-- what the letter l at place i makes of letters with the key k
pub record OneMore (s : List ℕ) (from i k : ℕ) (l : Letter) : Type 0 where
  pub further : 0 < l.width
  pub inside : i + l.width ≤ length s
  pub most : l.code ≤ 26
  pub packed : Packed (take ((i + l.width) - from) (drop from s)) (k * 32 + l.code)

-- behind letters with the key k, at place i
module _ (s : List ℕ) (from i k : ℕ) (h : from ≤ i) (P : Packed (take (i - from) (drop from s)) k) where
  -- what is left of the text, as the code slices it
  rest_is : take (length s - i) (drop i s) ≡ drop i s
  rest_is = take_all (length s - i) (drop i s) (omega (arith, length-drop i s))

  -- no word goes on where there is no letter
  pub ends_here : None ≡ front_of (take (length s - i) (drop i s)) → (n : ℕ) → 0 < n → i < length s → unit_of (take (i - from) (drop from s) ++ take n (drop i s)) ≡ None
  ends_here z n q r =
      not_lowered (take (i - from) (drop from s) ++ take n (drop i s))
      (P.letters_are (take n (drop i s)) ∙ no_front (drop i s) (omega (arith, length-drop i s)) (rw rest_is at z) n q)

  -- nor where the key is large already
  pub full_here : 36028797018963968 ≤ k → (n : ℕ) → 0 < n → i < length s → unit_of (take (i - from) (drop from s) ++ take n (drop i s)) ≡ None
  full_here g n q r =
      let y : 0 < length (drop i s) = omega (arith, length-drop i s) in
      too_large (take (i - from) (drop from s) ++ take n (drop i s))
      (omega (arith, P.key_is (take n (drop i s)), key_grown k (lower (take n (drop i s))) (lower_some (drop i s) n y q)))

  -- one letter more
  pub letter_more : i ≤ length s → {l : Letter} → Some l ≡ front_of (take (length s - i) (drop i s)) → OneMore s from i k l
  letter_more p {l} e =
      let F = front (drop i s) l (rw rest_is at e) in
      let a : (i + l.width) - from ≡ (i - from) + l.width = omega arith in
      let b : from + (i - from) ≡ i = omega arith in
      let q : drop (i - from) (drop from s) ≡ drop i s = drop-drop (i - from) from s ∙ rw b in
      let u : take ((i + l.width) - from) (drop from s) ≡ take (i - from) (drop from s) ++ take l.width (drop i s) = rw (a, take-add (i - from) l.width (drop from s), q) in
      record {
        further = F.wide;
        inside = omega (arith, F.wide, F.within_t, length-drop i s);
        most = F.most;
        packed = rw u (record {
          key_is = λ x. rw (append_assoc (take (i - from) (drop from s)) (take l.width (drop i s)) x) (P.key_is (take l.width (drop i s) ++ x) ∙ F.key_on_lem k x);
          letters_are = λ x. rw (append_assoc (take (i - from) (drop from s)) (take l.width (drop i s)) x) (P.letters_are (take l.width (drop i s) ++ x) ∙ F.lowered_on x);
        });
      }

-- ---- the unit of letters that are packed

module _ {u : List ℕ} {k : ℕ} (P : Packed u k) where
  alone : lowered (lower u) ≡ true
  unfolding lowered lower
  alone = rw append-nil at (P.letters_are [])

  pub packed_letters : Letters u
  packed_letters = lower_letters u alone

  pub packed_unit : by_key k spellings ≡ unit_of u
  unfolding key_on lower
  packed_unit = let e : key_on 0 (lower u) ≡ k = rw append-nil at (P.key_is []) in rw (← e) (unit_by_key u alone)

-- a word is its letters, or it goes on behind them and is no unit
module _ (s : List ℕ) (r : LettersRead) (L : LettersIs s 0 r) where
  pub word_letters : length s ≤ r.end → by_key r.key spellings ≡ unit_of s
  word_letters h = rw (sub-zero, take_all r.end s h) at (packed_unit L.packed)

  pub word_longer : r.end < length s → None ≡ unit_of s
  word_longer h = sym (rw (sub-zero, take_all (length s) (drop r.end s) (omega (arith, length-drop r.end s)), take-append-drop r.end s) at (L.longest (length s) (omega arith) h))
