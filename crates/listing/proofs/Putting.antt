-- The lines of components, put one behind another. Assumes nothing.
use mathlib.Core.Path.{◌≡◌}
use mathlib.Core.List.{List, [], ◌∷◌}
use Prim.Native.Nat.{ℕ}
use lib.IntN.{ℤ}
use Rattle.utf8.specs.Quoted.{bytes}
use Rattle.amount.specs.Grammar.{Value}
use Rattle.buffer.specs.Buffer.{Put}
use Rattle.buffer.proofs.Puts.{then}
use Rattle.decimal.specs.Decimal.{signed_text}
use Rattle.unit.specs.declared.IntervalUnit.{IntervalUnit}
use Rattle.listing.specs.Names.{name}
use Rattle.listing.specs.Lines.{line}

-- a line in its seven pieces; i and f are the amount's numbers as a local holds them
pub one_line : (u : IntervalUnit) {v : Value} {i f : ℤ} {at p q r s t x y : ℕ} {w a b c d e g h k : List ℕ}
    → Put at (bytes "unit=") a b p → Put p w b c q → Put q (bytes " whole=") c d r → Put r (signed_text i) d e s → Put s (bytes " frac=") e g t
    → Put t (signed_text f) g h x → Put x (0x0A ∷ []) h k y → w ≡ name u → i ≡ v.integer → f ≡ v.frac → Put at (line u v) a k y
unfolding line
one_line u one two three four five six seven ew ei ef =
    rw (← ew, ← ei, ← ef) (then one (then two (then three (then four (then five (then six seven))))))
