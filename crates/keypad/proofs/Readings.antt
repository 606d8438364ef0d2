-- Readings of the computed text: document 02's examples, and each seam between the texts of one, two and three components. Assumes nothing.
use mathlib.Core.Path.{refl}
use mathlib.Core.List.{List, [], ◌∷◌}
use Prim.Native.Nat.{ℕ}
use Prim.Native.String.{String}
use Rattle.utf8.specs.Quoted.{bytes}
use Rattle.text.proofs.Table.{Row, row, Readings}
use Rattle.refusal.specs.Outcome.{Outcome, accepted, refused}
use Rattle.keypad.specs.Texts.{word}
use Rattle.keypad.specs.Answer.{ways, component_at, components, glue, join, components_of, text_of, keypad_text}

abbrev writes : ℕ → String → Row (Outcome (List ℕ))
writes k t = row (keypad_text k) (accepted (bytes t))

abbrev rows : List (Row (Outcome (List ℕ)))
rows =
    writes 0 "0c" ∷
    writes 1 "0dec" ∷
    writes 11 "0nanosecond" ∷
    writes 12 "1c" ∷
    writes 119 "9nanosecond" ∷
    writes 120 "0c 0dec" ∷
    writes 121 "0c 0y" ∷
    writes 131 "0c 1dec" ∷
    writes 230 "0dec 0c" ∷
    writes 13_319 "9nanosecond 9us" ∷
    writes 13_320 "0c 0dec 0y" ∷
    writes 1_333_319 "9nanosecond 9us 9ms" ∷
    row (keypad_text 1_333_320) (refused 17) ∷
    row (keypad_text 18_446_744_073_709_551_615) (refused 17) ∷ []

pub readings : Readings rows
unfolding word ways component_at components glue join components_of text_of keypad_text
readings = refl
