-- Unit words in a text: they are of letters, and end where white space or the text's end comes. Assumes nothing.
use mathlib.Core.Path.{◌≡◌, refl}
use mathlib.Core.Bool.{Bool, true, false, ◌&&◌, false≢true}
use mathlib.Core.Logic.{⊎_elim}
use mathlib.Core.List.{List, [], ◌∷◌, ◌++◌}
use Rattle.std.specs.Prelude.{None, Some}
use Prim.Native.Nat.{ℕ, suc, ◌+◌, ◌≤◌, ◌<◌}
use Prim.Native.String.{String}
use native.Mathlib.Omega.{arith}
use native.Mathlib.Numerals.{add-one}
use lib.Dec.{eqb}
use lib.ListN.{length, get_or, drop, drop_of_length-le}
use lib.Seq.{drop-cons}
use borrow.Author.Tests.{eqb-true, ne_eqb}
use Rattle.text.specs.Digits.{within}
use Rattle.utf8.specs.Utf8.{Utf8, scalar_then}
use Rattle.white.specs.WhiteSpace.{White, white1, white2, white3, white_of, white_len}
use Rattle.text.proofs.Bools.{and_left, and_right, or_cases, both_ways, by_test, within_is}
use Rattle.utf8.proofs.Ascii.{ascii_then}
use Rattle.white.proofs.Characters.{white_some, not_white}
use Rattle.white.proofs.WhiteAgrees.{measures}
use Rattle.utf8.specs.Quoted.{bytes}
use Rattle.unit.specs.Units.{Row, row, spellings, same, one_of, find, low, kelvin, lower, unit_of, present, is_unit, word_len}
use Rattle.unit.specs.Keys.{lowered}
use Rattle.unit.specs.declared.IntervalUnit.{IntervalUnit}

-- ---- the letters of a unit word

-- ASCII letters, and U+212A
pub data Letters : List ℕ → Type 0 where
  no_more : Letters []
  letter : {b : ℕ} {u : List ℕ} → 0x39 < b → b < 0x80 → Letters u → Letters (b ∷ u)
  kelvin_sign : {u : List ℕ} → Letters u → Letters (0xE2 ∷ 0x84 ∷ 0xAA ∷ u)

-- one or more of them
unfoldable plain : List ℕ → Bool
plain [] = false
plain (b ∷ t) = lowered (b ∷ t)

unfoldable all_plain : List String → Bool
all_plain [] = true
all_plain (s ∷ l) = plain (bytes s) && all_plain l

unfoldable rows_plain : List Row → Bool
rows_plain [] = true
rows_plain (row u l ∷ rows) = all_plain l && rows_plain rows

spellings_plain : rows_plain spellings ≡ true
unfolding rows_plain all_plain plain lowered spellings
spellings_plain = refl

pub same_is : (a b : List ℕ) → same a b ≡ true → a ≡ b
unfolding same
same_is [] [] e = refl
same_is [] (c ∷ u) e = absurd (false≢true e)
same_is (b ∷ t) [] e = absurd (false≢true e)
same_is (b ∷ t) (c ∷ u) e =
    let p = eqb-true b c (and_left (eqb b c) (same t u) e) in
    let q = same_is t u (and_right (eqb b c) (same t u) e) in
    cc

one_plain : (w : List ℕ) (l : List String) → all_plain l ≡ true → one_of l w ≡ true → plain w ≡ true
unfolding all_plain one_of
one_plain w [] a e = absurd (false≢true e)
one_plain w (s ∷ l) a e =
    ⊎_elim
    (λ p. rw (same_is w (bytes s) p) (and_left (plain (bytes s)) (all_plain l) a))
    (λ p. one_plain w l (and_right (plain (bytes s)) (all_plain l) a) p)
    (or_cases (same w (bytes s)) (one_of l w) e)

find_plain : (w : List ℕ) (rows : List Row) → rows_plain rows ≡ true → present (find rows w) ≡ true → plain w ≡ true
unfolding rows_plain find present
find_plain w [] a e = absurd (false≢true e)
find_plain w (row u l ∷ rows) a e =
    by_test (one_of l w)
    (λ p. one_plain w l (and_left (all_plain l) (rows_plain rows) a) p)
    (λ p. find_plain w rows (and_right (all_plain l) (rows_plain rows) a) (rw p at e))

low_letter : (b : ℕ) → within 0x61 (low b) 0x7A ≡ true → (0x39 < b) × (b < 0x80)
unfolding low
low_letter b e =
    by_test (within 0x41 b 0x5A)
    (λ p. omega (arith, within_is 0x41 b 0x5A p))
    (λ p. omega (arith, within_is 0x61 b 0x7A (rw p at e)))

one_more : (b : ℕ) (u r : List ℕ) → (lowered u ≡ true → Letters r) → lowered (low b ∷ u) ≡ true → Letters (b ∷ r)
unfolding lowered
one_more b u r f e =
    let h = low_letter b (and_left (within 0x61 (low b) 0x7A) (lowered u) e) in
    letter h.0 h.1 (f (and_right (within 0x61 (low b) 0x7A) (lowered u) e))

is_kelvin : (b c d : ℕ) (t : List ℕ) → kelvin b c d ≡ true → Letters t → Letters (b ∷ c ∷ d ∷ t)
unfolding kelvin
is_kelvin b c d t e r =
    let f = and_right (eqb b 0xE2) (eqb c 0x84 && eqb d 0xAA) e in
    rw (
      eqb-true b 0xE2 (and_left (eqb b 0xE2) (eqb c 0x84 && eqb d 0xAA) e),
      eqb-true c 0x84 (and_left (eqb c 0x84) (eqb d 0xAA) f),
      eqb-true d 0xAA (and_right (eqb c 0x84) (eqb d 0xAA) f),
    )
    (kelvin_sign r)

pub lower_letters : (u : List ℕ) → lowered (lower u) ≡ true → Letters u
unfolding lower lowered
lower_letters [] e = no_more
lower_letters (b ∷ []) e = one_more b [] [] (λ h. no_more) e
lower_letters (b ∷ c ∷ []) e = one_more b (lower (c ∷ [])) (c ∷ []) (λ h. lower_letters (c ∷ []) h) e
lower_letters (b ∷ c ∷ d ∷ t) e =
    by_test (kelvin b c d)
    (λ h. is_kelvin b c d t h (lower_letters t (simp h at e)))
    (λ h. one_more b (lower (c ∷ d ∷ t)) (c ∷ d ∷ t) (λ g. lower_letters (c ∷ d ∷ t) g) (simp h at e))

plain_lowered : (t : List ℕ) → plain t ≡ true → lowered t ≡ true
unfolding plain
plain_lowered [] e = absurd (false≢true e)
plain_lowered (b ∷ t) e = e

-- a unit word is of letters
pub unit_lowered : (u : List ℕ) → is_unit u ≡ true → lowered (lower u) ≡ true
unfolding is_unit unit_of
unit_lowered u e = plain_lowered (lower u) (find_plain (lower u) spellings spellings_plain e)

pub unit_letters : (u : List ℕ) → is_unit u ≡ true → Letters u
unit_letters u e = lower_letters u (unit_lowered u e)

-- the empty word is none
no_word : is_unit [] ≡ false
unfolding is_unit unit_of find one_of same present lower spellings
no_word = refl

-- ---- a unit word in a text

-- what follows a unit word: nothing, or white space
pub data Ends : List ℕ → Type 0 where
  at_end : Ends []
  at_white : {w : List ℕ} (r : List ℕ) → White w → Ends (w ++ r)

sign_of_kelvin : (t : List ℕ) → white_len (0xE2 ∷ 0x84 ∷ 0xAA ∷ t) ≡ 0
unfolding white_of white1 white2 white3
sign_of_kelvin t = refl

-- the first byte of a unit word, and that no white space stands there
record Starts (u x : List ℕ) : Type 0 where
  past_digits : 0x39 < get_or (u ++ x) 0 0
  not_white : white_len (u ++ x) ≡ 0

unit_starts : (u x : List ℕ) → is_unit u ≡ true → Starts u x
unit_starts u x e = from u (unit_letters u e) e
  where
    from : (v : List ℕ) → Letters v → is_unit v ≡ true → Starts v x
    from v no_more h = both_ways (is_unit []) no_word h
    from v (letter {b} {u = y} p q r) h = record { past_digits = p; not_white = not_white b (y ++ x) (omega arith) q }
    from v (kelvin_sign {u = y} r) h = record { past_digits = omega arith; not_white = sign_of_kelvin (y ++ x) }

pub unit_first : (u x : List ℕ) → is_unit u ≡ true → 0x39 < get_or (u ++ x) 0 0
unit_first u x e = (unit_starts u x e).past_digits

pub unit_not_white : (u x : List ℕ) → is_unit u ≡ true → white_len (u ++ x) ≡ 0
unit_not_white u x e = (unit_starts u x e).not_white

-- no word stands before white space
stops : (t : List ℕ) → 0 < white_len t → word_len t ≡ 0
unfolding word_len
stops [] h = refl
stops (b ∷ t) h = rw (ne_eqb (white_len (b ∷ t)) 0 (λ e. omega arith))

ends_word : (x : List ℕ) → Ends x → word_len x ≡ 0
unfolding word_len
ends_word x at_end = refl
ends_word x (at_white {w} r W) = stops (w ++ r) (rw (measures W r) (white_some W))

-- letters are of the word that they begin
pub word_past : (u x : List ℕ) → Letters u → word_len (u ++ x) ≡ length u + word_len x
unfolding word_len white_of white1 white2 white3
word_past u x no_more = omega arith
word_past u x (letter {b} {u = v} p q r) = rw (not_white b (v ++ x) (omega arith) q) (omega (arith, word_past v x r))
word_past u x (kelvin_sign {u = v} r) = omega (arith, word_past v x r)

-- a unit word runs up to the end, or to the next white space
pub word_run : (u x : List ℕ) → Letters u → Ends x → word_len (u ++ x) ≡ length u
word_run u x r e = omega (arith, word_past u x r, ends_word x e)

-- ---- a word from place i of a text on

module _ (s : List ℕ) (i : ℕ) where
  pub word_on : i < length s → white_len (drop i s) ≡ 0 → word_len (drop i s) ≡ suc (word_len (drop (i + 1) s))
  unfolding word_len
  word_on h e = rw (add-one, drop-cons s i 0 h, rw (drop-cons s i 0 h) at e)

  pub word_off : 0 < white_len (drop i s) → word_len (drop i s) ≡ 0
  word_off h = stops (drop i s) h

  pub word_end_lem : length s ≤ i → word_len (drop i s) ≡ 0
  unfolding word_len
  word_end_lem h = rw (drop_of_length-le s h)

-- ---- what a word w spells

module _ (w : List ℕ) where
  pub spells : {v : IntervalUnit} → unit_of w ≡ Some v → is_unit w ≡ true
  unfolding is_unit present
  spells e = rw e

  pub spells_none : unit_of w ≡ None → is_unit w ≡ false
  unfolding is_unit present
  spells_none e = rw e

-- ---- UTF-8

pub letters_utf8 : {u t : List ℕ} → Letters u → Utf8 t → Utf8 (u ++ t)
letters_utf8 no_more e = e
letters_utf8 (letter p q r) e = ascii_then q (letters_utf8 r e)
letters_utf8 (kelvin_sign r) e = scalar_then 0x212A refl (letters_utf8 r e)
