-- Readings of the definition: some dates, each with the day number that other calendars give for it. Assumes nothing.
use mathlib.Core.Path.{refl}
use mathlib.Core.List.{List, [], ◌∷◌}
use Rattle.std.specs.Prelude.{Option, None, Some}
use Prim.Native.Nat.{ℕ}
use lib.IntN.{ℤ, pos, neg_ℤ}
use Rattle.text.proofs.Table.{Row, row, Readings}
use Rattle.calendar.specs.Calendar.{civil, span, before}

-- a year, a month and a day, and the day number
abbrev date : ℤ → ℕ → ℕ → Option ℤ → Row (Option ℤ)
date y m d z = row (civil y m d) z

abbrev rows : List (Row (Option ℤ))
rows =
    date (pos 1970) 1 1 (Some (pos 0)) ∷
    date (pos 1969) 12 31 (Some (neg_ℤ (pos 1))) ∷
    date (pos 2000) 2 29 (Some (pos 11016)) ∷
    date (pos 2020) 1 1 (Some (pos 18262)) ∷
    date (pos 2038) 1 19 (Some (pos 24855)) ∷
    date (pos 1582) 10 15 (Some (neg_ℤ (pos 141427))) ∷
    date (pos 0) 1 1 (Some (neg_ℤ (pos 719528))) ∷
    date (neg_ℤ (pos 4)) 2 29 (Some (neg_ℤ (pos 720930))) ∷
    date (pos 1900) 2 29 None ∷
    date (pos 2100) 2 29 None ∷
    date (pos 2024) 2 30 None ∷
    date (pos 2024) 4 31 None ∷
    date (pos 2020) 13 1 None ∷
    date (pos 2020) 0 10 None ∷
    date (pos 2020) 1 0 None ∷
    []

pub readings : Readings rows
unfolding span before
readings = refl
