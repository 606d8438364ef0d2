-- Trimming (document 01): "tab, line feed, form feed, carriage return and space from both ends, not vertical tab".
-- `Trimmed` says what a trimmed text is, `trimmed` computes it, and `Rattle.text.proofs.TrimAgrees.agrees` joins them. Assumes nothing.
use Rattle.std.specs.Prelude.{◌≡◌, ℕ, ◌-◌, Bool, true, false, cond, ◌&&◌, ◌||◌, List, [], ◌∷◌, ◌++◌, length, ◌==◌, slice_index}

-- tab, line feed, form feed, carriage return, space
abbrev pub blank : ℕ → Bool
blank b = b == 0x09 || (b == 0x0A || (b == 0x0C || (b == 0x0D || b == 0x20)))

-- every byte is a blank
unfoldable pub blanks : List ℕ → Bool
blanks [] = true
blanks (b ∷ t) = blank b && blanks t

-- what is left of a text, m, after the blanks at its start, l, and before those at its end, r: the first and the last byte of m,
-- where it has them, are no blanks (0 is none)
pub data Trimmed : List ℕ → List ℕ → Type 0 where
  between : (l m r : List ℕ) → blanks l ≡ true → blanks r ≡ true → blank (slice_index m 0) ≡ false → blank (slice_index m (length m - 1)) ≡ false → Trimmed (l ++ (m ++ r)) m

-- without the blanks at the start
unfoldable pub trim_start : List ℕ → List ℕ
trim_start [] = []
trim_start (b ∷ t) = cond (blank b) (trim_start t) (b ∷ t)

-- a byte before a text that is trimmed at its end
abbrev pub before : ℕ → List ℕ → List ℕ
before b [] = cond (blank b) [] (b ∷ [])
before b (c ∷ t) = b ∷ c ∷ t

-- without the blanks at the end
unfoldable pub trim_end : List ℕ → List ℕ
trim_end [] = []
trim_end (b ∷ t) = before b (trim_end t)

abbrev pub trimmed : List ℕ → List ℕ
trimmed t = trim_end (trim_start t)
