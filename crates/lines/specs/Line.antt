-- Lines of an input that comes in pieces. Assumes nothing.
use Rattle.std.specs.Prelude.{cond, List, [], ◌∷◌, ℕ, suc, eqb, ltb, length, Option, None, Some}

-- how many bytes stand before the first that is b; all, where none is
unfoldable pub before : ℕ → List ℕ → ℕ
before b [] = 0
before b (x ∷ t) = cond (eqb x b) 0 (suc (before b t))

-- what is told of a line: its bytes, or none where there are more than the longest line has
unfoldable pub told : ℕ → List ℕ → Option (List ℕ)
told longest line = cond (ltb longest (length line)) None (Some line)
