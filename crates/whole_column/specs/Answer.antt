-- What a whole column answers (document 02, No. 1), over any reader of a text, as a computation. `Meaning` has it as a relation.
-- Assumes nothing.
use Rattle.std.specs.Prelude.{Bool, true, cond, ◌&&◌, List, [], ◌∷◌, ◌++◌, ℕ, suc, ◌-◌, leb, ℤ, length, take, drop}
use Rattle.refusal.specs.Outcome.{Outcome, accepted, refused}
use Rattle.text.specs.Digits.{within}

-- "either every text is accepted", with the values in order; "or the first refused text in order gives its number and index"; or a number
-- is given "before any text is read"
pub data Whole : Type 0 where
  all_accepted : List ℤ → Whole
  first_refused : ℕ → ℕ → Whole
  not_read : ℕ → Whole

-- no end falls, the one before the first being `from`, and none passes n bytes
unfoldable pub in_order : ℕ → ℕ → List ℕ → Bool
in_order n from [] = true
in_order n from (end ∷ ends) = within from end n && in_order n end ends

-- the texts that ends cut out of bytes: each from the end before it, the first from `from`, up to its own
unfoldable pub cut : List ℕ → ℕ → List ℕ → List (List ℕ)
cut bytes from [] = []
cut bytes from (end ∷ ends) = take (end - from) (drop from bytes) ∷ cut bytes end ends

-- a value in front of the later texts' values; a later text's index is one more
unfoldable pub behind : ℤ → Whole → Whole
behind z (all_accepted zs) = all_accepted (z ∷ zs)
behind z (first_refused n i) = first_refused n (suc i)
behind z (not_read n) = not_read n

-- a text's value in front of what the later ones answer; a refused text whatever they are
unfoldable pub on_text : Outcome ℤ → Whole → Whole
on_text (accepted z) later = behind z later
on_text (refused n) later = first_refused n 0

-- the texts, each by its reader
unfoldable pub read_all : (List ℕ → Outcome ℤ) → List (List ℕ) → Whole
read_all read [] = all_accepted []
read_all read (t ∷ texts) = on_text (read t) (read_all read texts)

-- "Refusal 13, before any text is read, is for ends that fall or pass the bytes, or too few cells"
unfoldable pub whole : (List ℕ → Outcome ℤ) → List ℕ → List ℕ → ℕ → Whole
whole read bytes ends cells = cond (in_order (length bytes) 0 ends && leb (length ends) cells) (read_all read (cut bytes 0 ends)) (not_read 13)

-- "the first cells hold the values in order, later cells unchanged"
unfoldable pub stored : List ℤ → List ℤ → List ℤ
stored zs cells = zs ++ drop (length zs) cells

-- the cells after the call; "no cell is touched" where not every text is accepted
unfoldable pub cells_after : Whole → List ℤ → List ℤ
cells_after (all_accepted zs) cells = stored zs cells
cells_after (first_refused n i) cells = cells
cells_after (not_read n) cells = cells
