-- What a private function of `interval_text` puts. Assumes nothing.
use Rattle.std.specs.Prelude.{cond, List, [], ◌∷◌, ◌++◌, ℕ, eqb, ℤ, nat_abs}
use Rattle.decimal.specs.Decimal.{signed_text}

-- the space before a part that is put at a place: none at a text's front
abbrev pub space_at : ℕ → List ℕ
space_at at = cond (eqb at 0) [] (0x20 ∷ [])

-- a part that is put at a place: none where the amount is zero
abbrev pub part_at : ℕ → ℤ → List ℕ → List ℕ
part_at at z word = cond (eqb (nat_abs z) 0) [] (space_at at ++ (signed_text z ++ word))
