-- The range of a signed width: its ends, what a signed local reads back, and the answer for a number in the range, above it and
-- below it. Assumes nothing.
use mathlib.Core.Path.{◌≡◌}
use Rattle.std.specs.Prelude.{Some}
use Prim.Native.Nat.{◌-◌, ◌^◌}
use lib.IntN.{ℤ, pos}
use lib.Signed.{mag}
use mir.Syntax.{Width}
use mir.Val.{SFits, hbits, to_z, of_z}
use mir.Facts.{to_z-of_z}
use borrow.Author.Tests.{lt-ltb}
use Rattle.number.specs.Widths.{fit}

-- what a signed local reads back
abbrev pub rd : Width → ℤ → ℤ
rd w z = to_z w (of_z w z)

-- the largest and the least number of the width
abbrev pub top : Width → ℤ
top w = pos (2 ^ hbits w - 1)

pub fit_yes : {w : Width} {z : ℤ} → SFits w z → Some (rd w z) ≡ fit (hbits w) z
fit_yes {w} {z} f = rw (to_z-of_z f, lt-ltb (mag z) (2 ^ hbits w) f.sfits)
