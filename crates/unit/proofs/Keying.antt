-- A unit word is found by its key: letters are the digits of base 32, none of them 0, so that no two words have one key. Assumes nothing.
use mathlib.Core.Path.{◌≡◌, refl, sym, ap, ◌∙◌}
use mathlib.Core.Bool.{Bool, true, false, ◌&&◌, false≢true}
use mathlib.Core.Logic.{inl, inr}
use mathlib.Core.List.{List, [], ◌∷◌, ◌++◌, append-nil}
use Rattle.std.specs.Prelude.{Option, None, Some}
use Prim.Native.Nat.{ℕ, zero, suc, ◌+◌, ◌-◌, ◌*◌, ◌/◌, ◌%◌, ◌≤◌, ◌<◌}
use Prim.Native.String.{String}
use native.Mathlib.Nat.{add-zero}
use native.Mathlib.Omega.{arith}
use lib.Dec.{eqb, ltb}
use lib.ListN.{length}
use types.Run.{OneOf}
use borrow.Author.Tests.{eqb-true, eq-eqb, ne_eqb, ltb-true}
use Rattle.text.specs.Digits.{within}
use Rattle.text.proofs.Bools.{and_left, and_right, both_ways, by_test, within_is}
use Rattle.utf8.specs.Quoted.{bytes}
use Rattle.unit.specs.Units.{rank, Row, row, spellings, same, one_of, find, lower, unit_of, present, is_unit}
use Rattle.unit.specs.Keys.{lowered, key_on, key_of, key_in, by_key}
use Rattle.unit.specs.declared.IntervalUnit.{IntervalUnit}
use Rattle.unit.proofs.Numbering.{same_unit}
use Rattle.unit.proofs.Spelling.{same_is, unit_lowered}

-- ---- a word from its key: the last letter first

unfoldable decode : ℕ → ℕ → List ℕ → List ℕ
decode zero k a = a
decode (suc j) zero a = a
decode (suc j) (suc k) a = decode j (suc k / 32) ((suc k % 32 + 0x60) ∷ a)

decode_none : (j : ℕ) (a : List ℕ) → decode j 0 a ≡ a
unfolding decode
decode_none zero a = refl
decode_none (suc j) a = refl

decode_one : (j p c : ℕ) (a : List ℕ) → 0x61 ≤ c → c ≤ 0x7A → decode (suc j) (p * 32 + (c - 0x60)) a ≡ decode j p (c ∷ a)
unfolding decode
decode_one j p c a h l = from (p * 32 + (c - 0x60)) refl
  where
    from : (k : ℕ) → p * 32 + (c - 0x60) ≡ k → decode (suc j) k a ≡ decode j p (c ∷ a)
    from zero e = absurd (omega arith)
    from (suc k) e =
        let q : suc k / 32 ≡ p = omega arith in
        let r : suc k % 32 + 0x60 ≡ c = omega arith in
        rw (q, r)

decode_key : (w : List ℕ) (p j : ℕ) (a : List ℕ) → lowered w ≡ true → decode (j + length w) (key_on p w) a ≡ decode j p (w ++ a)
unfolding lowered key_on
decode_key [] p j a h = rw add-zero
decode_key (c ∷ w) p j a h =
    let r = within_is 0x61 c 0x7A (and_left (within 0x61 c 0x7A) (lowered w) h) in
    let e : j + suc (length w) ≡ suc j + length w = omega arith in
    rw e (decode_key w (p * 32 + (c - 0x60)) (suc j) a (and_right (within 0x61 c 0x7A) (lowered w) h) ∙ decode_one j p c (w ++ a) r.0 r.1)

key_most : (w : List ℕ) (p : ℕ) → lowered w ≡ true → p + length w ≤ key_on p w
unfolding lowered key_on
key_most [] p h = omega arith
key_most (c ∷ w) p h =
    let r = within_is 0x61 c 0x7A (and_left (within 0x61 c 0x7A) (lowered w) h) in
    omega (arith, key_most w (p * 32 + (c - 0x60)) (and_right (within 0x61 c 0x7A) (lowered w) h))

decoded : (w : List ℕ) (f : ℕ) → lowered w ≡ true → length w ≤ f → decode f (key_on 0 w) [] ≡ w
decoded w f h l =
    let e : f ≡ (f - length w) + length w = omega arith in
    rw e (decode_key w 0 (f - length w) [] h ∙ decode_none (f - length w) (w ++ []) ∙ append-nil w)

-- no two words have one key
one_key : (a b : List ℕ) → lowered a ≡ true → lowered b ≡ true → key_on 0 a ≡ key_on 0 b → a ≡ b
one_key a b x y e =
    sym (decoded a (key_on 0 a) x (omega (arith, key_most a 0 x))) ∙ rw e (decoded b (key_on 0 b) y (omega (arith, key_most b 0 y)))

-- ---- the spellings: letters, and keys below 32^12

unfoldable fine : List String → Bool
fine [] = true
fine (s ∷ l) = (lowered (bytes s) && ltb (key_of s) 1152921504606846976) && fine l

unfoldable rows_fine : List Row → Bool
rows_fine [] = true
rows_fine (row u l ∷ rows) = fine l && rows_fine rows

spellings_fine : rows_fine spellings ≡ true
unfolding rows_fine fine lowered key_of key_on spellings
spellings_fine = refl

same_refl : (w : List ℕ) → same w w ≡ true
unfolding same
same_refl [] = refl
same_refl (b ∷ t) = rw (eq-eqb b b refl) (same_refl t)

module _ (w : List ℕ) (h : lowered w ≡ true) where
  word_by_key : (l : List String) → fine l ≡ true → one_of l w ≡ key_in l (key_on 0 w)
  unfolding fine one_of key_in key_of
  word_by_key [] f = refl
  word_by_key (s ∷ l) f =
      let g = and_left (lowered (bytes s) && ltb (key_of s) 1152921504606846976) (fine l) f in
      by_test (same w (bytes s))
      (λ e. rw (e, eq-eqb (key_on 0 w) (key_on 0 (bytes s)) (ap (key_on 0) (same_is w (bytes s) e))))
      (λ e. rw (e, ne_eqb (key_on 0 w) (key_on 0 (bytes s)) (λ q. both_ways (same w (bytes s)) e (rw (one_key w (bytes s) h (and_left (lowered (bytes s)) (ltb (key_of s) 1152921504606846976) g) q) (same_refl (bytes s)))))
      (word_by_key l (and_right (lowered (bytes s) && ltb (key_of s) 1152921504606846976) (fine l) f)))

  row_by_key : (rows : List Row) → rows_fine rows ≡ true → find rows w ≡ by_key (key_on 0 w) rows
  unfolding rows_fine find by_key
  row_by_key [] f = refl
  row_by_key (row u l ∷ rows) f =
      rw (word_by_key l (and_left (fine l) (rows_fine rows) f), row_by_key rows (and_right (fine l) (rows_fine rows) f))

small_word : (w : List ℕ) (l : List String) → fine l ≡ true → one_of l w ≡ true → key_on 0 w < 1152921504606846976
unfolding fine one_of key_of
small_word w [] f e = absurd (false≢true e)
small_word w (s ∷ l) f e =
    let g = and_left (lowered (bytes s) && ltb (key_on 0 (bytes s)) 1152921504606846976) (fine l) f in
    by_test (same w (bytes s))
    (λ p. rw (same_is w (bytes s) p) (ltb-true (key_on 0 (bytes s)) 1152921504606846976 (and_right (lowered (bytes s)) (ltb (key_on 0 (bytes s)) 1152921504606846976) g)))
    (λ p. small_word w l (and_right (lowered (bytes s) && ltb (key_on 0 (bytes s)) 1152921504606846976) (fine l) f) (rw p at e))

small_row : (w : List ℕ) (rows : List Row) → rows_fine rows ≡ true → present (find rows w) ≡ true → key_on 0 w < 1152921504606846976
unfolding rows_fine find present
small_row w [] f e = absurd (false≢true e)
small_row w (row u l ∷ rows) f e =
    by_test (one_of l w)
    (λ p. small_word w l (and_left (fine l) (rows_fine rows) f) p)
    (λ p. small_row w rows (and_right (fine l) (rows_fine rows) f) (rw p at e))

-- ---- the unit of a word

not_present : (o : Option IntervalUnit) → (present o ≡ true → ⊥) → o ≡ None
unfolding present
not_present None f = refl
not_present (Some u) f = absurd (f refl)

module _ (w : List ℕ) where
  -- a word of letters has the unit of its key
  pub unit_by_key : lowered (lower w) ≡ true → by_key (key_on 0 (lower w)) spellings ≡ unit_of w
  unfolding unit_of
  unit_by_key h = sym (row_by_key (lower w) h spellings spellings_fine)

  -- another word has none
  pub not_lowered : lowered (lower w) ≡ false → unit_of w ≡ None
  unfolding is_unit
  not_lowered h = not_present (unit_of w) (λ e. both_ways (lowered (lower w)) h (unit_lowered w e))

  -- nor has one with a large key
  pub too_large : 1152921504606846976 ≤ key_on 0 (lower w) → unit_of w ≡ None
  unfolding unit_of
  too_large h = not_present (find spellings (lower w)) (λ e. absurd (omega (arith, small_row (lower w) spellings spellings_fine e)))

-- ---- the arms of a match on the key

unfoldable pub keys_of : List String → List ℕ
keys_of [] = []
keys_of (s ∷ l) = key_of s ∷ keys_of l

-- the keys of the n-th row
unfoldable pub keys_at : List Row → ℕ → List ℕ
keys_at [] n = []
keys_at (row u l ∷ rows) zero = keys_of l
keys_at (row u l ∷ rows) (suc n) = keys_at rows n

unfoldable pub is_that : IntervalUnit → Option IntervalUnit → Bool
is_that u None = false
is_that u (Some v) = eqb (rank u) (rank v)

-- each key has the unit u
unfoldable pub all_give : IntervalUnit → List ℕ → Bool
all_give u [] = true
all_give u (k ∷ l) = is_that u (by_key k spellings) && all_give u l

that_is : (u : IntervalUnit) (o : Option IntervalUnit) → is_that u o ≡ true → Some u ≡ o
unfolding is_that
that_is u None e = absurd (false≢true e)
that_is u (Some v) e = ap Some (same_unit u v e)

gives_it : (u : IntervalUnit) (l : List ℕ) → all_give u l ≡ true → (k : ℕ) → OneOf l k → Some u ≡ by_key k spellings
unfolding all_give
gives_it u [] g k o = absurd o
gives_it u (x ∷ []) g k o = rw o (that_is u (by_key x spellings) (and_left (is_that u (by_key x spellings)) true g))
gives_it u (x ∷ y ∷ l) g k (inl e) = rw e (that_is u (by_key x spellings) (and_left (is_that u (by_key x spellings)) (all_give u (y ∷ l)) g))
gives_it u (x ∷ y ∷ l) g k (inr o) = gives_it u (y ∷ l) (and_right (is_that u (by_key x spellings)) (all_give u (y ∷ l)) g) k o

-- a key of the n-th row
pub by_row : (n : ℕ) (u : IntervalUnit) (k : ℕ) → all_give u (keys_at spellings n) ≡ true → OneOf (keys_at spellings n) k → Some u ≡ by_key k spellings
by_row n u k g o = gives_it u (keys_at spellings n) g k o

-- T, and the key k is of none of the rows
unfoldable pub NoneOf : Type 0 → ℕ → List Row → Type 0
NoneOf T k [] = T
NoneOf T k (row u l ∷ rows) = NoneOf (T × (OneOf (keys_of l) k → ⊥)) k rows

none_first : (T : Type 0) (k : ℕ) (rows : List Row) → NoneOf T k rows → T
unfolding NoneOf
none_first T k [] h = h
none_first T k (row u l ∷ rows) h = (none_first (T × (OneOf (keys_of l) k → ⊥)) k rows h).0

in_one : (l : List String) (k : ℕ) → key_in l k ≡ true → OneOf (keys_of l) k
unfolding key_in keys_of
in_one [] k e = absurd (false≢true e)
in_one (s ∷ []) k e =
    by_test (eqb k (key_of s)) (λ p. eqb-true k (key_of s) p) (λ p. absurd (false≢true (rw p at e)))
in_one (s ∷ t ∷ l) k e =
    by_test (eqb k (key_of s)) (λ p. inl (eqb-true k (key_of s) p)) (λ p. inr (in_one (t ∷ l) k (rw p at e)))

no_key : (T : Type 0) (k : ℕ) (rows : List Row) → NoneOf T k rows → None ≡ by_key k rows
unfolding NoneOf by_key
no_key T k [] h = refl
no_key T k (row u l ∷ rows) h =
    by_test (key_in l k)
    (λ p. absurd ((none_first (T × (OneOf (keys_of l) k → ⊥)) k rows h).1 (in_one l k p)))
    (λ p. rw p (no_key (T × (OneOf (keys_of l) k → ⊥)) k rows h))

-- a key of none of them
pub by_none : (k : ℕ) → NoneOf Unit k spellings → None ≡ by_key k spellings
by_none k h = no_key Unit k spellings h
