-- UTF-8. A text is well-formed where it is a sequence of encoded scalar values (RFC 3629, sections 3 and 4): `Utf8`. The computation
-- `utf8` goes byte by byte through the Unicode Standard's table 3-7, "Well-Formed UTF-8 Byte Sequences". The theorem
-- `Rattle.utf8.proofs.Utf8Agrees.agrees` says that they are the same. Assumes nothing.
use Rattle.std.specs.Prelude.{◌≡◌, Bool, true, false, cond, not, ◌&&◌, List, [], ◌∷◌, ◌++◌, ℕ, zero, suc, ◌+◌, ◌/◌, ◌%◌, leb, ltb}
use Rattle.text.specs.Digits.{within}
use Rattle.utf8.specs.declared.Follow.{Follow}

-- RFC 3629, section 3: the numbers up to 10FFFF, less D800 to DFFF, the surrogates
abbrev pub scalar : ℕ → Bool
scalar c = leb c 0x10FFFF && not (within 0xD800 c 0xDFFF)

-- RFC 3629, section 3: the bytes of a number, six bits in each byte but the first
abbrev pub encode : ℕ → List ℕ
encode c =
    cond (ltb c 0x80) (c ∷ [])
    (cond (ltb c 0x800) ((0xC0 + c / 64) ∷ (0x80 + c % 64) ∷ [])
    (cond (ltb c 0x10000) ((0xE0 + c / 4096) ∷ (0x80 + c / 64 % 64) ∷ (0x80 + c % 64) ∷ [])
    ((0xF0 + c / 262144) ∷ (0x80 + c / 4096 % 64) ∷ (0x80 + c / 64 % 64) ∷ (0x80 + c % 64) ∷ [])))

-- a sequence of encoded scalar values
pub data Utf8 : List ℕ → Type 0 where
  nothing : Utf8 []
  scalar_then : (c : ℕ) {t : List ℕ} → scalar c ≡ true → Utf8 t → Utf8 (encode c ++ t)

-- a row of table 3-7: the first byte from .. to .., how many bytes follow, and the second byte from .. to ..; each later one is 80 to BF
pub data Row : Type 0 where
  row : (first last count low high : ℕ) → Row

-- Unicode, table 3-7
abbrev pub table : List Row
table =
    row 0x00 0x7F 0 0x80 0xBF ∷
    row 0xC2 0xDF 1 0x80 0xBF ∷
    row 0xE0 0xE0 2 0xA0 0xBF ∷
    row 0xE1 0xEC 2 0x80 0xBF ∷
    row 0xED 0xED 2 0x80 0x9F ∷
    row 0xEE 0xEF 2 0x80 0xBF ∷
    row 0xF0 0xF0 3 0x90 0xBF ∷
    row 0xF1 0xF3 3 0x80 0xBF ∷
    row 0xF4 0xF4 3 0x80 0x8F ∷ []

-- so many bytes, the next from .. to ..
abbrev pub following : (count low high : ℕ) → Follow
following n l h = record { count = n; low = l; high = h }

-- what must follow a first byte; after a byte that begins no character, a byte from 1 to 0, which there is not
abbrev pub follows : List Row → ℕ → Follow
follows [] b = following 1 1 0
follows (row first last n l h ∷ rows) b = cond (within first b last) (following n l h) (follows rows b)

-- the rest of a text in which so many bytes of a character are still to come, the next from .. to ..
unfoldable pub well_formed : (count low high : ℕ) → List ℕ → Bool
well_formed zero low high [] = true
well_formed (suc n) low high [] = false
well_formed zero low high (b ∷ t) = well_formed (follows table b).count (follows table b).low (follows table b).high t
well_formed (suc n) low high (b ∷ t) = within low b high && well_formed n 0x80 0xBF t

-- the text is well-formed UTF-8
abbrev pub utf8 : List ℕ → Bool
utf8 t = well_formed 0 0x80 0xBF t

-- every byte is below 80
unfoldable pub ascii : List ℕ → Bool
ascii [] = true
ascii (b ∷ t) = ltb b 0x80 && ascii t
