-- Texts as lines write them: `\xHH` is the byte with that hexadecimal number, any other byte stands for itself. Assumes nothing.
use Rattle.std.specs.Prelude.{cond, ◌&&◌, List, [], ◌∷◌, ℕ, zero, suc, ◌+◌, ◌*◌, ◌-◌, eqb, get_or, Option, None, Some}
use Rattle.text.specs.Digits.{within, is_digit, worth}

-- what a hexadecimal digit is worth (RFC 5234, appendix B.1: HEXDIG = DIGIT / "A" to "F", here in capitals alone)
unfoldable pub hex_worth : ℕ → Option ℕ
hex_worth b = cond (is_digit b) (Some (worth b)) (cond (within 0x41 b 0x46) (Some (b - 55)) None)

-- what two digits are worth
abbrev pub pair_worth : Option ℕ → Option ℕ → Option ℕ
pair_worth (Some high) (Some low) = Some (high * 16 + low)
pair_worth (Some high) None = None
pair_worth None low = None

-- the byte that `\x` and two hexadecimal digits write, where a text begins with them; past the end of a text is a 0, which is none of these bytes
unfoldable pub escaped : List ℕ → Option ℕ
escaped t =
    cond (eqb (get_or t 0 0) 0x5C && eqb (get_or t 1 0) 0x78) (pair_worth (hex_worth (get_or t 2 0)) (hex_worth (get_or t 3 0))) None

-- the first byte of a text and the text behind it: what an escape writes and what stands behind its four bytes, or else the byte itself
abbrev pub written : Option ℕ → ℕ → List ℕ → List ℕ → List ℕ
written (Some escape) b past_four past_one = escape ∷ past_four
written None b past_four past_one = b ∷ past_one

-- the text that bytes write, of which the first k are read already
unfoldable pub unescaped_past : ℕ → List ℕ → List ℕ
unescaped_past k [] = []
unescaped_past (suc k) (b ∷ t) = unescaped_past k t
unescaped_past zero (b ∷ t) = written (escaped (b ∷ t)) b (unescaped_past 3 t) (unescaped_past 0 t)

-- the text that bytes write
unfoldable pub unescaped : List ℕ → List ℕ
unescaped t = unescaped_past 0 t
