-- What the answers of `unit` say. Assumes nothing.
use Rattle.std.specs.Prelude.{◌≡◌, List, ℕ, ◌+◌, ◌≤◌, ◌<◌, length, take, drop, None, Some, Result, Ok, Err}
use Rattle.white.specs.WhiteSpace.{white_len}
use Rattle.unit.specs.Units.{unit_of, word_len}
use Rattle.unit.specs.declared.IntervalUnit.{IntervalUnit}
use Rattle.unit.specs.declared.Word.{Word}
use Rattle.unit.specs.declared.Word.TheVariants.{Last as LastWord, More as MoreWord}

-- where the word of s from a place on ends: at the next white space character, or with the text
unfoldable pub word_end : List ℕ → ℕ → ℕ
word_end s at = at + word_len (drop at s)

-- that word
unfoldable pub word_of : List ℕ → ℕ → List ℕ
word_of s at = take (word_len (drop at s)) (drop at s)

-- the word from a place on spells the unit u, and white space follows, up to the place next
pub record Followed (s : List ℕ) (at : ℕ) (u : IntervalUnit) (next : ℕ) : Type 0 where
  pub spelled : unit_of (word_of s at) ≡ Some u
  pub next_is : next ≡ word_end s at + white_len (drop (word_end s at) s)
  pub further : word_end s at < next
  pub inside : next ≤ length s

-- the word from a place on: it spells no unit, and then that place is told; or one with which the text ends, or one that white space follows
unfoldable pub word_is : List ℕ → ℕ → Result Word ℕ → Type 0
word_is s at (Err p) = (unit_of (word_of s at) ≡ None) × (p ≡ at)
word_is s at (Ok (LastWord u)) = (unit_of (word_of s at) ≡ Some u) × (length s ≤ word_end s at)
word_is s at (Ok (MoreWord u next)) = Followed s at u next
