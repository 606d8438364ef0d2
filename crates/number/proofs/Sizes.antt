-- Sign and size of a signed number, at any width. Assumes nothing.
use mathlib.Core.Path.{◌≡◌}
use mathlib.Core.Bool.{Bool, true, false}
use Rattle.std.specs.Prelude.{None, Some}
use Prim.Native.Nat.{ℕ, ◌+◌, ◌-◌, ◌^◌, ◌≤◌, ◌<◌}
use native.Mathlib.Omega.{arith}
use lib.Pow.{pow_pos}
use lib.IntN.{ℤ, pos, negsuc, neg_ℤ, nat_abs, ◌-ℤ◌}
use lib.Signed.{le_z}
use mir.Syntax.{Width}
use mir.Val.{SFits, hbits, to_z}
use mir.Facts.{to_z_pos}
use borrow.Author.Tests.{le-ltb}
use Rattle.number.specs.Widths.{fit, signed}
use Rattle.number.proofs.Zed.{size_pn, P-neg, N-neg, sub-ℤ, le_no, fits_of, eq_of, abs_up, abs_down}
use Rattle.number.proofs.Ranges.{rd, fit_yes}

-- a number whose size is below the limit fits
pub small_fits : (w : Width) (z : ℤ) → nat_abs z < 2 ^ hbits w → SFits w z
small_fits w z h = fits_of w z (omega (arith, size_pn z))

module _ {w : Width} {a : ℤ} (fa : SFits w a) where
  size : le_z (pos 0) a ≡ false → nat_abs (negsuc 0 -ℤ a) + 1 ≡ nat_abs a
  size h = omega (arith, sub-ℤ (negsuc 0) a, le_no (pos 0) a h, abs_down a (omega (arith, le_no (pos 0) a h)), abs_up (negsuc 0 -ℤ a) (omega (arith, sub-ℤ (negsuc 0) a, le_no (pos 0) a h)))

-- ---- from a sign and a size: `-1 - (m - 1)` below zero, so that the least number of the width is made too

minus_one : (k : ℕ) → negsuc 0 -ℤ pos k ≡ negsuc k
minus_one k = eq_of (negsuc 0 -ℤ pos k) (negsuc k) (omega (arith, sub-ℤ (negsuc 0) (pos k)))

minus_size : (m : ℕ) → (m ≡ 0 → ⊥) → neg_ℤ (pos m) ≡ negsuc (m - 1)
minus_size m z = eq_of (neg_ℤ (pos m)) (negsuc (m - 1)) (omega (arith, P-neg (pos m), N-neg (pos m), z))

module _ (w : Width) (m : ℕ) where
  pub down : (m ≡ 0 → ⊥) → m - 1 ≤ 2 ^ hbits w - 1 → Some (rd w (negsuc 0 -ℤ to_z w (m - 1))) ≡ fit (hbits w) (signed true m)
  down z h =
      rw (to_z_pos w {n = m - 1} (omega (arith, pow_pos (hbits w))), minus_one (m - 1), minus_size m z)
      (fit_yes {w = w} {z = negsuc (m - 1)} (record { sfits = omega (arith, pow_pos (hbits w)) }))

  pub down_over : (m ≡ 0 → ⊥) → 2 ^ hbits w - 1 < m - 1 → None ≡ fit (hbits w) (signed true m)
  down_over z h = rw (minus_size m z, le-ltb (m - 1) (2 ^ hbits w) (omega arith))

  pub up : m ≤ 2 ^ hbits w - 1 → Some (to_z w m) ≡ fit (hbits w) (signed false m)
  up h = fit_yes {w = w} {z = pos m} (record { sfits = omega (arith, pow_pos (hbits w)) })

  pub up_over : 2 ^ hbits w - 1 < m → None ≡ fit (hbits w) (signed false m)
  up_over h = rw (le-ltb m (2 ^ hbits w) (omega arith))

  -- a size above that of the least number fits with no sign
  pub too_large : (neg : Bool) → 2 ^ hbits w < m → None ≡ fit (hbits w) (signed neg m)
  too_large true h = down_over (omega arith) (omega (arith, pow_pos (hbits w)))
  too_large false h = up_over (omega arith)
