-- A table of readings: each row has what a definition computes and the answer that is told, and one equation holds over all rows.
-- Assumes nothing.
use Rattle.std.proofs.Common.{◌≡◌, List, map}

pub data Row (A : Type 0) : Type 0 where
  row : (is said : A) → Row A

abbrev pub computed : {A : Type 0} → Row A → A
computed (row is said) = is

abbrev pub told : {A : Type 0} → Row A → A
told (row is said) = said

-- every row's definition computes what is told
abbrev pub Readings : {A : Type 0} → List (Row A) → Type 0
Readings rows = map computed rows ≡ map told rows
