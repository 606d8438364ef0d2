-- The longest keypad text has 21 bytes (document 02, No. 9): "nanosecond" stands in it once at most, and every other word has at most three. Assumes
-- nothing.
use mathlib.Core.Path.{◌≡◌, refl, sym}
use mathlib.Core.List.{List, ◌∷◌, ◌++◌}
use Prim.Native.Nat.{ℕ, suc, ◌+◌, ◌*◌, ◌≤◌, ◌<◌}
use native.Mathlib.Omega.{arith}
use lib.ListN.{length}
use Rattle.std.proofs.lemmas.List.{length-append}
use Rattle.unit.specs.declared.IntervalUnit.{IntervalUnit}
use Rattle.unit.specs.declared.IntervalUnit.TheVariants.{Century, Decade, Year, Month, Week, Day, Hour, Minute, Second, Millisecond, Microsecond, Nanosecond}
use Rattle.keypad.specs.Texts.{word, Component, glued, Joined, one, more, Without, not_here, Once, one_more, KeypadText}
use Rattle.keypad.specs.Answer.{ways, component_at, components, glue, join, components_of, text_of}
use Rattle.keypad.proofs.Agreement.{in_set}

-- a short word, or the long one
data Word (u : IntervalUnit) : Type 0 where
  short : length (word u) ≤ 3 → Word u
  long : u ≡ Nanosecond → length (word u) ≡ 10 → Word u

word_of : (u : IntervalUnit) → Word u
unfolding word
word_of Century = short (omega arith)
word_of Decade = short (omega arith)
word_of Year = short (omega arith)
word_of Month = short (omega arith)
word_of Week = short (omega arith)
word_of Day = short (omega arith)
word_of Hour = short (omega arith)
word_of Minute = short (omega arith)
word_of Second = short (omega arith)
word_of Millisecond = short (omega arith)
word_of Microsecond = short (omega arith)
word_of Nanosecond = long refl refl

plain : {t : List ℕ} {l : List Component} → Joined t l → Without Nanosecond l → length t + 1 ≤ 5 * length l
plain (one (glued {d} {u} h)) (not_here n w) = by_word (word_of u)
  where
    by_word : Word u → length ((0x30 + d) ∷ word u) + 1 ≤ 5
    by_word (short q) = omega arith
    by_word (long e q) = absurd (n (sym e))
plain (more {r = r} {l = l} (glued {d} {u} h) j) (not_here n w) = by_word (plain j w) (word_of u)
  where
    by_word : length r + 1 ≤ 5 * length l → Word u → length (((0x30 + d) ∷ word u) ++ (0x20 ∷ r)) + 1 ≤ 5 * suc (length l)
    by_word k (short q) = omega (arith, length-append ((0x30 + d) ∷ word u) (0x20 ∷ r))
    by_word k (long e q) = absurd (n (sym e))

bound : {t : List ℕ} {l : List Component} → Joined t l → Once l → length t + 1 ≤ 5 * length l + 7
bound (one (glued {d} {u} h)) o = by_word (word_of u)
  where
    by_word : Word u → length ((0x30 + d) ∷ word u) + 1 ≤ 12
    by_word (short q) = omega arith
    by_word (long e q) = omega arith
bound (more {r = r} {l = l} (glued {d} {u} h) j) (one_more w o) = by_word (bound j o) (word_of u)
  where
    by_word : length r + 1 ≤ 5 * length l + 7 → Word u → length (((0x30 + d) ∷ word u) ++ (0x20 ∷ r)) + 1 ≤ 5 * suc (length l) + 7
    by_word k (short q) = omega (arith, length-append ((0x30 + d) ∷ word u) (0x20 ∷ r))
    by_word k (long e q) = omega (arith, plain j (rw (e) at w), length-append ((0x30 + d) ∷ word u) (0x20 ∷ r))

-- no text of the set is longer
pub longest : {t : List ℕ} → KeypadText t → length t ≤ 21
longest T = omega (arith, bound T.joined T.once, T.few)

pub held : {k : ℕ} → k < 1_333_320 → length (text_of k) ≤ 21
held {k} h = longest (in_set k h)

-- and "0nanosecond 0dec 0mon" is as long
pub longest_is : length (text_of 134_422) ≡ 21
unfolding text_of components_of ways component_at components glue join word
longest_is = refl
