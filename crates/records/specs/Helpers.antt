-- What the loops over records find. Assumes nothing.
use Rattle.std.specs.Prelude.{List, [], ◌∷◌, ◌++◌, ℕ, suc, Option, None, Some}

-- a record's bytes, none where it stays
unfoldable pub the_bytes : Option (List ℕ) → List ℕ
the_bytes None = []
the_bytes (Some b) = b

-- the bytes of each, one behind another
unfoldable pub joined : (List ℕ → Option (List ℕ)) → List (List ℕ) → List ℕ
joined convert [] = []
joined convert (r ∷ records) = the_bytes (convert r) ++ joined convert records

-- a record that goes leaves it to the later ones
unfoldable pub or_later : Option (List ℕ) → ℕ → Option ℕ → Option ℕ
or_later (Some b) i later = later
or_later None i later = Some i

-- the first record that stays, of records that are numbered from i on
unfoldable pub first_that_stays_from : (List ℕ → Option (List ℕ)) → ℕ → List (List ℕ) → Option ℕ
first_that_stays_from convert i [] = None
first_that_stays_from convert i (r ∷ records) = or_later (convert r) i (first_that_stays_from convert (suc i) records)
