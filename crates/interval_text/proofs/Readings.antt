-- Readings of the definition: zero parts, each part alone, the least and the greatest counts. Assumes nothing.
use mathlib.Core.Path.{refl}
use mathlib.Core.List.{List, [], ◌∷◌}
use Prim.Native.Nat.{ℕ}
use Prim.Native.String.{String}
use lib.IntN.{ℤ, pos, negsuc}
use Rattle.utf8.specs.Quoted.{bytes}
use Rattle.text.proofs.Table.{Row, row, Readings}
use Rattle.decimal.specs.Decimal.{decimal_in, decimal, signed_text}
use Rattle.rule.specs.Contribution.{counts}
use Rattle.interval_text.specs.Text.{part_before, parts, spaced, interval_text}

abbrev writes : ℤ → ℤ → ℤ → String → Row (List ℕ)
writes m d n t = row (interval_text (counts m d n)) (bytes t)

abbrev rows : List (Row (List ℕ))
rows =
    writes (pos 0) (pos 0) (pos 0) "0 months" ∷
    writes (pos 1) (pos 0) (pos 0) "1 months" ∷
    writes (pos 0) (negsuc 0) (pos 0) "-1 days" ∷
    writes (pos 0) (pos 0) (pos 10) "10 nanoseconds" ∷
    writes (pos 10) (negsuc 99) (pos 0) "10 months -100 days" ∷
    writes (pos 1) (pos 0) (negsuc 2) "1 months -3 nanoseconds" ∷
    writes (pos 0) (pos 9) (pos 99) "9 days 99 nanoseconds" ∷
    writes (pos 2_147_483_647) (pos 2_147_483_647) (pos 9_223_372_036_854_775_807)
    "2147483647 months 2147483647 days 9223372036854775807 nanoseconds" ∷
    writes (negsuc 2_147_483_647) (negsuc 2_147_483_647) (negsuc 9_223_372_036_854_775_807)
    "-2147483648 months -2147483648 days -9223372036854775808 nanoseconds" ∷
    []

pub readings : Readings rows
unfolding decimal_in decimal signed_text part_before parts spaced interval_text
readings = refl
