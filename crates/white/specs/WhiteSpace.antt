-- White space: Unicode's White_Space property (PropList.txt), in UTF-8. `White` is a white space character's bytes; `white_len` computes
-- from a text's bytes how long the one is that it begins with. `Rattle.white.proofs.WhiteAgrees` says that they are the same.
-- Assumes nothing.
use Rattle.std.specs.Prelude.{◌≡◌, Bool, true, cond, ◌&&◌, ◌||◌, List, ℕ, eqb, get_or}
use Rattle.text.specs.Digits.{within}
use Rattle.utf8.specs.Utf8.{encode}

-- PropList.txt, White_Space: 25 code points
abbrev pub white_space : ℕ → Bool
white_space c =
    within 0x0009 c 0x000D ||
    (eqb c 0x0020 ||
    (eqb c 0x0085 ||
    (eqb c 0x00A0 ||
    (eqb c 0x1680 ||
    (within 0x2000 c 0x200A || (within 0x2028 c 0x2029 || (eqb c 0x202F || (eqb c 0x205F || eqb c 0x3000))))))))

-- the bytes of a white space character
pub data White : List ℕ → Type 0 where
  white : (c : ℕ) → white_space c ≡ true → White (encode c)

-- those of one byte, of two and of three
unfoldable pub white1 : ℕ → Bool
white1 b = within 0x09 b 0x0D || eqb b 0x20

unfoldable pub white2 : ℕ → ℕ → Bool
white2 b c = eqb b 0xC2 && (eqb c 0x85 || eqb c 0xA0)

unfoldable pub white3 : ℕ → ℕ → ℕ → Bool
white3 b c d =
    (eqb b 0xE1 && (eqb c 0x9A && eqb d 0x80)) ||
    (eqb b 0xE2 &&
    ((eqb c 0x80 && (within 0x80 d 0x8A || (within 0xA8 d 0xA9 || eqb d 0xAF))) || (eqb c 0x81 && eqb d 0x9F))) ||
    (eqb b 0xE3 && (eqb c 0x80 && eqb d 0x80))

-- the length of the white space character that three bytes begin with, 0 for none
unfoldable pub white_of : ℕ → ℕ → ℕ → ℕ
white_of b c d = cond (white1 b) 1 (cond (white2 b c) 2 (cond (white3 b c d) 3 0))

-- the length of the white space character that a text begins with, 0 for none
abbrev pub white_len : List ℕ → ℕ
white_len t = white_of (get_or t 0 0) (get_or t 1 0) (get_or t 2 0)
