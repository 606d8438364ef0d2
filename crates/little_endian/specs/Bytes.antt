-- The number that bytes hold and the bytes that hold a number, computed, at any width in bytes. Assumes nothing.
use Rattle.std.specs.Prelude.{cond, List, [], ◌∷◌, ℕ, zero, suc, ◌+◌, ◌-◌, ◌*◌, ◌/◌, ◌%◌, ◌^◌, ◌<◌, ltb, ℤ, pos, negsuc}

-- each is a byte
abbrev pub Bytes : List ℕ → Type 0
Bytes [] = Unit
Bytes (b ∷ bytes) = (b < 256) × Bytes bytes

-- without sign: the first byte, and 256 times what the later ones make
unfoldable pub unsigned : List ℕ → ℕ
unsigned [] = 0
unsigned (b ∷ bytes) = b + 256 * unsigned bytes

-- the lowest bytes of a number without sign, as many as the width
unfoldable pub lowest_bytes : ℕ → ℕ → List ℕ
lowest_bytes zero n = []
lowest_bytes (suc width) n = n % 256 ∷ lowest_bytes width (n / 256)

-- the signed number that n, below m, stands for: one of the upper half for n less m
unfoldable pub with_sign : ℕ → ℕ → ℤ
with_sign m n = cond (ltb (2 * n) m) (pos n) (negsuc (m - suc n))

-- and back
unfoldable pub without_sign : ℕ → ℤ → ℕ
without_sign m (pos n) = n
without_sign m (negsuc n) = m - suc n

-- the number that bytes hold
abbrev pub number : ℕ → List ℕ → ℤ
number width bytes = with_sign (256 ^ width) (unsigned bytes)

-- the bytes that hold a number
abbrev pub bytes_of : ℕ → ℤ → List ℕ
bytes_of width z = lowest_bytes width (without_sign (256 ^ width) z)
