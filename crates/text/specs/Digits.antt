-- Digits of a text. A text is the list of its bytes. Assumes nothing.
use Rattle.std.specs.Prelude.{ℕ, suc, ◌+◌, ◌-◌, ◌*◌, ◌%◌, Bool, true, cond, ◌&&◌, List, [], ◌∷◌, nat_le, slice_index}

-- a is at most b, and b at most c
abbrev pub within : ℕ → ℕ → ℕ → Bool
within a b c = nat_le a b && nat_le b c

-- a digit is one of the bytes 0 to 9 (RFC 5234, appendix B.1: DIGIT = %x30-39)
abbrev pub is_digit : ℕ → Bool
is_digit b = within 0x30 b 0x39

-- what a digit is worth
abbrev pub worth : ℕ → ℕ
worth b = b - 0x30

-- document 01: "each byte less 48, wrapping, is the digit"; below 10 it is what the digit is worth
abbrev pub digit_of : ℕ → ℕ
digit_of b = (b + 208) % 256

-- every byte is a digit
unfoldable pub digits : List ℕ → Bool
digits [] = true
digits (b ∷ t) = is_digit b && digits t

-- the number that digits go on to write, of the number a that those before them write
unfoldable pub value : ℕ → List ℕ → ℕ
value a [] = a
value a (b ∷ t) = value (a * 10 + worth b) t

-- how many digits a text begins with
unfoldable pub run : List ℕ → ℕ
run [] = 0
run (b ∷ t) = cond (is_digit b) (suc (run t)) 0

-- two digits at a place, and their number; past the end of a text is a 0, which is no digit and no sign of a grammar
abbrev pub two_digits : List ℕ → ℕ → Bool
two_digits t i = is_digit (slice_index t i) && is_digit (slice_index t (i + 1))

abbrev pub two_at : List ℕ → ℕ → ℕ
two_at t i = worth (slice_index t i) * 10 + worth (slice_index t (i + 1))
