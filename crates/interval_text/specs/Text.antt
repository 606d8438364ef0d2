-- The text of an interval: document 02, No. 4. Assumes nothing.
use Rattle.std.specs.Prelude.{cond, List, [], ◌∷◌, ◌++◌, ℕ, eqb, ℤ, nat_abs}
use Prim.Native.String.{String}
use Rattle.utf8.specs.Quoted.{bytes}
use Rattle.decimal.specs.Decimal.{signed_text}
use Rattle.rule.specs.Contribution.{Counts}

-- a whole amount with its word, before the parts l; "zero parts left out"
unfoldable pub part_before : ℤ → String → List (List ℕ) → List (List ℕ)
part_before z word l = cond (eqb (nat_abs z) 0) l ((signed_text z ++ (0x20 ∷ bytes word)) ∷ l)

-- "whole amounts with "months", "days", "nanoseconds" in that order"
unfoldable pub parts : Counts → List (List ℕ)
parts c = part_before c.months "months" (part_before c.days "days" (part_before c.nanos "nanoseconds" []))

-- "single spaces" between parts, "all zero as "0 months""
unfoldable pub spaced : List (List ℕ) → List ℕ
spaced [] = bytes "0 months"
spaced (p ∷ []) = p
spaced (p ∷ q ∷ l) = p ++ (0x20 ∷ spaced (q ∷ l))

-- the text of three counts
unfoldable pub interval_text : Counts → List ℕ
interval_text c = spaced (parts c)
