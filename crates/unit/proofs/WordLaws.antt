-- The word from a place of a text on, up to white space or the end: what the letters there and what follows them say of it.
-- Assumes nothing.
use mathlib.Core.Path.{◌≡◌, refl, sym, ◌∙◌}
use mathlib.Core.List.{List, [], ◌∷◌}
use Rattle.std.specs.Prelude.{Option, None, Some, unwrap_or}
use Prim.Native.Nat.{ℕ, ◌+◌, ◌-◌, ◌≤◌, ◌<◌}
use native.Mathlib.Omega.{arith}
use lib.Dec.{eqb, leb}
use lib.ListN.{length, take, drop, length-drop, take-append-drop, drop_of_length-le}
use lib.Seq.{drop-drop, take-add, length-take-le}
use borrow.Author.Tests.{eqb-true, eqb-false, leb-true, leb-false}
use Rattle.white.specs.WhiteSpace.{white_len}
use Rattle.text.proofs.Bools.{by_test}
use Rattle.unit.specs.Units.{spellings, same, one_of, find, lower, unit_of, or_else, word_len}
use Rattle.unit.specs.Keys.{by_key, LettersIs}
use Rattle.unit.specs.Read.{word_end, word_of, Followed}
use Rattle.unit.specs.declared.IntervalUnit.{IntervalUnit}
use Rattle.unit.specs.declared.letters.Letters.{Letters}
use Rattle.unit.proofs.Spelling.{word_past, word_on, word_off, word_end_lem}
use Rattle.unit.proofs.Packing.{packed_letters, packed_unit}

-- ---- where a word ends

-- a text that is empty or begins with white space
unfoldable pub Halts : List ℕ → Type 0
Halts [] = Unit
Halts (b ∷ x) = white_len (b ∷ x) ≡ 0 → ⊥

pub word_is : (t : List ℕ) → Halts (drop (word_len t) t) × (word_len t ≤ length t)
unfolding Halts word_len
word_is [] = (tt, omega arith)
word_is (b ∷ t) =
    by_test (eqb (white_len (b ∷ t)) 0)
    (λ e. rw e ((word_is t).0, omega (arith, (word_is t).1)))
    (λ e. rw e (eqb-false (white_len (b ∷ t)) 0 e, omega arith))

-- what the word spells, by the place g where it ends
pub word_here : (s : List ℕ) (at : ℕ) {o : Option IntervalUnit} → unit_of (word_of s at) ≡ o → unit_of (take (word_end s at - at) (drop at s)) ≡ o
unfolding word_of word_end
word_here s at e = let q : at + word_len (drop at s) - at ≡ word_len (drop at s) = omega arith in rw q e

-- ---- no word past the end

no_word : unit_of [] ≡ None
unfolding unit_of find one_of same lower spellings
no_word = refl

pub past_none : (s : List ℕ) (at : ℕ) → length s ≤ at → unit_of (word_of s at) ≡ None
unfolding word_of word_len
past_none s at h = rw (drop_of_length-le s h) no_word

-- ---- the letters r from f on

module _ (s : List ℕ) (f : ℕ) (r : Letters) (L : LettersIs s f r) where
  rest_is : drop (r.end - f) (drop f s) ≡ drop r.end s
  rest_is = let q : f + (r.end - f) ≡ r.end = omega (arith, L.start) in drop-drop (r.end - f) f s ∙ rw q

  word_len_lem : word_len (drop f s) ≡ (r.end - f) + word_len (drop r.end s)
  word_len_lem =
      let k = length-take-le (r.end - f) (drop f s) (omega (arith, L.inside, length-drop f s)) in
      rw (take-append-drop (r.end - f) (drop f s), rest_is, k) at (word_past (take (r.end - f) (drop f s)) (drop (r.end - f) (drop f s)) (packed_letters L.packed))

  -- the word goes on behind the letters
  pub goes_on : r.end < length s → white_len (drop r.end s) ≡ 0 → unit_of (word_of s f) ≡ None
  unfolding word_of
  goes_on h e =
      rw (word_len_lem, take-add (r.end - f) (word_len (drop r.end s)) (drop f s), rest_is) (L.longest (word_len (drop r.end s)) (omega (arith, word_on s r.end h e)) h)

  -- the word is the letters
  module _ (h : word_len (drop r.end s) ≡ 0) where
    ends : r.end ≡ word_end s f
    unfolding word_end
    ends = omega (arith, word_len_lem, h, L.start)

    spelled_is : by_key r.key spellings ≡ unit_of (word_of s f)
    unfolding word_of
    spelled_is = let e : word_len (drop f s) ≡ r.end - f = omega (arith, word_len_lem, h) in rw e (packed_unit L.packed)

  pub no_unit : None ≡ by_key r.key spellings → unit_of (word_of s f) ≡ None
  no_unit e =
      by_test (leb (length s) r.end)
      (λ p. sym (spelled_is (word_end_lem s r.end (leb-true (length s) r.end p))) ∙ sym e)
      (λ p. by_test (eqb (white_len (drop r.end s)) 0)
      (λ q. goes_on (leb-false (length s) r.end p) (eqb-true (white_len (drop r.end s)) 0 q))
      (λ q. sym (spelled_is (word_off s r.end (omega (arith, eqb-false (white_len (drop r.end s)) 0 q)))) ∙ sym e))

  module _ {u : IntervalUnit} (e : Some u ≡ by_key r.key spellings) where
    pub last_unit : length s ≤ r.end → (unit_of (word_of s f) ≡ Some u) × (length s ≤ word_end s f)
    last_unit h = let z = word_end_lem s r.end h in (sym (spelled_is z) ∙ sym e, rw (← ends z) h)

    pub more_unit : {white : ℕ} → white ≡ white_len (drop r.end s) → (white ≡ 0 → ⊥) → white ≤ length s - r.end → r.end < length s → Followed s f u (r.end + white)
    more_unit {white} w n i l =
        let z = word_off s r.end (omega (arith, n)) in
        record {
          spelled = sym (spelled_is z) ∙ sym e;
          next_is = rw (← ends z, w);
          further = rw (← ends z) (omega (arith, n));
          inside = omega arith;
        }

-- ---- the unit found, else the default: Rust's `unwrap_or` on it

pub or_else_lem : (u : IntervalUnit) (o : Option IntervalUnit) → unwrap_or o u ≡ or_else u o
unfolding or_else
or_else_lem u None = refl
or_else_lem u (Some v) = refl
