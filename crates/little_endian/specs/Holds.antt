-- Which bytes hold a number, little endian and in two's complement, at any width in bytes: document 02, No. 8, has numbers of "signed bits
-- each, little endian", of 32 bits and of 64. Bytes.antt computes them, and the theorem `Rattle.little_endian.proofs.Undo.agrees` says that
-- they are these. Assumes nothing.
use Rattle.std.specs.Prelude.{◌≡◌, List, [], ◌∷◌, ℕ, suc, ◌+◌, ◌*◌, ◌^◌, ◌≤◌, ◌<◌, ℤ, pos, negsuc, length}

-- the number without sign that bytes make: the lowest byte comes first, and each is worth 256 times the one before it
pub data Makes : List ℕ → ℕ → Type 0 where
  nothing : Makes [] 0
  lowest : {b n : ℕ} {bytes : List ℕ} → b < 256 → Makes bytes n → Makes (b ∷ bytes) (b + 256 * n)

-- two's complement: of the 256 ^ width numbers without sign the lower half stand for themselves, the upper half for themselves less
-- 256 ^ width; `negsuc m` is -(m + 1)
pub data Holds (width : ℕ) (bytes : List ℕ) : ℤ → Type 0 where
  not_negative : {n : ℕ} → length bytes ≡ width → Makes bytes n → 2 * n < 256 ^ width → Holds width bytes (pos n)
  negative : {n m : ℕ} → length bytes ≡ width → Makes bytes n → n + suc m ≡ 256 ^ width → 2 * suc m ≤ 256 ^ width → Holds width bytes (negsuc m)
