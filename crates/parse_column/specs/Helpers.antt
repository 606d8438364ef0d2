-- What one reading of the texts finds, text by text from a number on. Assumes nothing.
use Rattle.std.specs.Prelude.{List, [], ◌∷◌, ℕ, suc, ℤ, set, Option, None, Some, option_map}
use Rattle.refusal.specs.declared.Refusal.{Refusal}
use Rattle.refusal.specs.Outcome.{Outcome, accepted, refused, number_of}

-- the first refused text's number and index
abbrev pub refused_at : Option (Refusal × ℕ) → Option (ℕ × ℕ)
refused_at = option_map (λ x. (number_of x.0, x.1))

-- an accepted text leaves it to the later ones, a refused one is the first
unfoldable pub or_later : Outcome ℤ → ℕ → Option (ℕ × ℕ) → Option (ℕ × ℕ)
or_later (accepted z) i later = later
or_later (refused n) i later = Some (n, i)

-- the first refused one of texts that are numbered from i on
unfoldable pub refused_from : (List ℕ → Outcome ℤ) → ℕ → List (List ℕ) → Option (ℕ × ℕ)
refused_from read i [] = None
refused_from read i (t ∷ texts) = or_later (read t) i (refused_from read (suc i) texts)

-- an accepted text goes on with its value, a refused one leaves the cells
unfoldable pub on_value : Outcome ℤ → (ℤ → List ℤ) → List ℤ → List ℤ
on_value (accepted z) next cells = next z
on_value (refused n) next cells = cells

-- the cells with the values of the texts up to the first refused one, numbered from i on
unfoldable pub stored_from : (List ℕ → Outcome ℤ) → ℕ → List (List ℕ) → List ℤ → List ℤ
stored_from read i [] cells = cells
stored_from read i (t ∷ texts) cells = on_value (read t) (λ z. stored_from read (suc i) texts (set cells i z)) cells
