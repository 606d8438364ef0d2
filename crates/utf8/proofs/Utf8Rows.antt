-- The rows of Unicode's table 3-7, each found by the range of its first byte b. Assumes nothing.
use mathlib.Core.Path.{◌≡◌}
use Prim.Native.Nat.{ℕ, ◌≤◌, ◌<◌}
use native.Mathlib.Omega.{arith}
use Rattle.utf8.specs.Utf8.{table, following, follows}
use Rattle.text.proofs.Bools.{within_yes, within_under, within_over}

module _ (b : ℕ) where
  pub row_00 : b ≤ 0x7F → follows table b ≡ following 0 0x80 0xBF
  row_00 p = rw (within_yes 0x00 b 0x7F (omega arith) (omega arith))

  pub row_c2 : 0xC2 ≤ b → b ≤ 0xDF → follows table b ≡ following 1 0x80 0xBF
  row_c2 p q = rw (within_over 0x00 b 0x7F (omega arith), within_yes 0xC2 b 0xDF (omega arith) (omega arith))

  pub row_e0 : 0xE0 ≤ b → b ≤ 0xE0 → follows table b ≡ following 2 0xA0 0xBF
  row_e0 p q = rw (within_over 0x00 b 0x7F (omega arith), within_over 0xC2 b 0xDF (omega arith), within_yes 0xE0 b 0xE0 (omega arith) (omega arith))

  pub row_e1 : 0xE1 ≤ b → b ≤ 0xEC → follows table b ≡ following 2 0x80 0xBF
  row_e1 p q = rw (within_over 0x00 b 0x7F (omega arith), within_over 0xC2 b 0xDF (omega arith), within_over 0xE0 b 0xE0 (omega arith), within_yes 0xE1 b 0xEC (omega arith) (omega arith))

  pub row_ed : 0xED ≤ b → b ≤ 0xED → follows table b ≡ following 2 0x80 0x9F
  row_ed p q = rw (within_over 0x00 b 0x7F (omega arith), within_over 0xC2 b 0xDF (omega arith), within_over 0xE0 b 0xE0 (omega arith), within_over 0xE1 b 0xEC (omega arith), within_yes 0xED b 0xED (omega arith) (omega arith))

  pub row_ee : 0xEE ≤ b → b ≤ 0xEF → follows table b ≡ following 2 0x80 0xBF
  row_ee p q = rw (within_over 0x00 b 0x7F (omega arith), within_over 0xC2 b 0xDF (omega arith), within_over 0xE0 b 0xE0 (omega arith), within_over 0xE1 b 0xEC (omega arith), within_over 0xED b 0xED (omega arith), within_yes 0xEE b 0xEF (omega arith) (omega arith))

  pub row_f0 : 0xF0 ≤ b → b ≤ 0xF0 → follows table b ≡ following 3 0x90 0xBF
  row_f0 p q = rw (within_over 0x00 b 0x7F (omega arith), within_over 0xC2 b 0xDF (omega arith), within_over 0xE0 b 0xE0 (omega arith), within_over 0xE1 b 0xEC (omega arith), within_over 0xED b 0xED (omega arith), within_over 0xEE b 0xEF (omega arith), within_yes 0xF0 b 0xF0 (omega arith) (omega arith))

  pub row_f1 : 0xF1 ≤ b → b ≤ 0xF3 → follows table b ≡ following 3 0x80 0xBF
  row_f1 p q = rw (within_over 0x00 b 0x7F (omega arith), within_over 0xC2 b 0xDF (omega arith), within_over 0xE0 b 0xE0 (omega arith), within_over 0xE1 b 0xEC (omega arith), within_over 0xED b 0xED (omega arith), within_over 0xEE b 0xEF (omega arith), within_over 0xF0 b 0xF0 (omega arith), within_yes 0xF1 b 0xF3 (omega arith) (omega arith))

  pub row_f4 : 0xF4 ≤ b → b ≤ 0xF4 → follows table b ≡ following 3 0x80 0x8F
  row_f4 p q = rw (within_over 0x00 b 0x7F (omega arith), within_over 0xC2 b 0xDF (omega arith), within_over 0xE0 b 0xE0 (omega arith), within_over 0xE1 b 0xEC (omega arith), within_over 0xED b 0xED (omega arith), within_over 0xEE b 0xEF (omega arith), within_over 0xF0 b 0xF0 (omega arith), within_over 0xF1 b 0xF3 (omega arith), within_yes 0xF4 b 0xF4 (omega arith) (omega arith))

  -- bytes that begin no character
  pub row_80 : 0x80 ≤ b → b < 0xC2 → follows table b ≡ following 1 1 0
  row_80 p q = rw (within_over 0x00 b 0x7F (omega arith), within_under 0xC2 b 0xDF (omega arith), within_under 0xE0 b 0xE0 (omega arith), within_under 0xE1 b 0xEC (omega arith), within_under 0xED b 0xED (omega arith), within_under 0xEE b 0xEF (omega arith), within_under 0xF0 b 0xF0 (omega arith), within_under 0xF1 b 0xF3 (omega arith), within_under 0xF4 b 0xF4 (omega arith))

  pub row_f5 : 0xF5 ≤ b → follows table b ≡ following 1 1 0
  row_f5 p = rw (within_over 0x00 b 0x7F (omega arith), within_over 0xC2 b 0xDF (omega arith), within_over 0xE0 b 0xE0 (omega arith), within_over 0xE1 b 0xEC (omega arith), within_over 0xED b 0xED (omega arith), within_over 0xEE b 0xEF (omega arith), within_over 0xF0 b 0xF0 (omega arith), within_over 0xF1 b 0xF3 (omega arith), within_over 0xF4 b 0xF4 (omega arith))
