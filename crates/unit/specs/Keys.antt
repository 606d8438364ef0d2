-- How the code reads a unit word: its letters, in lower case and with U+212A as k, are the digits of a number of base 32, by which the
-- unit is found. Assumes nothing.
use Rattle.std.specs.Prelude.{◌≡◌, Bool, true, false, cond, ◌&&◌, List, [], ◌∷◌, ◌++◌, ℕ, ◌+◌, ◌-◌, ◌*◌, ◌≤◌, ◌<◌, eqb, get_or, length, take, drop, Option, None, Some}
use Prim.Native.String.{String}
use Rattle.text.specs.Digits.{within}
use Rattle.utf8.specs.Quoted.{bytes}
use Rattle.unit.specs.Units.{Row, row, low, kelvin, lower, unit_of}
use Rattle.unit.specs.declared.IntervalUnit.{IntervalUnit}
use Rattle.unit.specs.declared.letters.Letter.{Letter}
use Rattle.unit.specs.declared.letters.Letters.{Letters}

-- letters a to z
unfoldable pub lowered : List ℕ → Bool
lowered [] = true
lowered (b ∷ t) = within 0x61 b 0x7A && lowered t

-- letters as digits of base 32, on top of k
unfoldable pub key_on : ℕ → List ℕ → ℕ
key_on k [] = k
key_on k (b ∷ t) = key_on (k * 32 + (b - 0x60)) t

-- the key of a spelling
unfoldable pub key_of : String → ℕ
key_of s = key_on 0 (bytes s)

-- one of some words has the key k
unfoldable pub key_in : List String → ℕ → Bool
key_in [] k = false
key_in (s ∷ l) k = cond (eqb k (key_of s)) true (key_in l k)

-- the unit in whose row a word with the key k stands
unfoldable pub by_key : ℕ → List Row → Option IntervalUnit
by_key k [] = None
by_key k (row u words ∷ rows) = cond (key_in words k) (Some u) (by_key k rows)

-- a lower-case letter and its number from 1 to 26, none for any other byte
unfoldable pub plain_letter : ℕ → Option Letter
plain_letter b = cond (within 0x61 b 0x7A) (Some (record { code = b - 0x60; width = 1 })) None

-- the letter that three bytes begin with: U+212A is a k
unfoldable pub letter_of : ℕ → ℕ → ℕ → Option Letter
letter_of b c d = cond (kelvin b c d) (Some (record { code = 11; width = 3 })) (plain_letter (low b))

-- the letter that a text begins with
abbrev pub front_of : List ℕ → Option Letter
front_of t = letter_of (get_or t 0 0) (get_or t 1 0) (get_or t 2 0)

-- the bytes u are letters with the key k, whatever follows them
pub record Packed (u : List ℕ) (k : ℕ) : Type 0 where
  pub key_is : (x : List ℕ) → key_on 0 (lower (u ++ x)) ≡ key_on k (lower x)
  pub letters_are : (x : List ℕ) → lowered (lower (u ++ x)) ≡ lowered (lower x)

-- letters of the text s from a place on: they end in the text, and no longer word is a unit
pub record LettersIs (s : List ℕ) (from : ℕ) (r : Letters) : Type 0 where
  pub start : from ≤ r.end
  pub inside : r.end ≤ length s
  pub packed : Packed (take (r.end - from) (drop from s)) r.key
  pub longest : (n : ℕ) → 0 < n → r.end < length s → unit_of (take (r.end - from) (drop from s) ++ take n (drop r.end s)) ≡ None
