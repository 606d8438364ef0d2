-- Bytes put into a lent buffer, and the rest kept. Assumes nothing.
use Rattle.std.specs.Prelude.{◌≡◌, List, [], ◌∷◌, ℕ, zero, suc, ◌+◌, ◌-◌, ◌^◌, ◌<◌, min, length}

-- a buffer with the bytes w from a place on, as far as it goes; every other byte is kept
unfoldable pub overwritten : ℕ → List ℕ → List ℕ → List ℕ
overwritten at w [] = []
overwritten zero [] (x ∷ b) = x ∷ b
overwritten zero (c ∷ w) (x ∷ b) = c ∷ overwritten zero w b
overwritten (suc k) w (x ∷ b) = x ∷ overwritten k w b

-- where w ends, or would in a buffer that went on: a place of 64 bits
abbrev pub end_of : ℕ → List ℕ → ℕ
end_of at w = min (at + length w) (2 ^ 64 - 1)

-- the bytes w put into a buffer, whose length is a number of 64 bits, from a place on: the buffer afterwards, and the place behind them
pub record Put (at : ℕ) (w before after : List ℕ) (end : ℕ) : Type 0 where
  pub bytes_are : after ≡ overwritten at w before
  pub end_is : end ≡ end_of at w
  pub in_64_bits : length before < 2 ^ 64
