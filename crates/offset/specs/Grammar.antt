-- What may end a stamp, as relations: RFC 3339, section 5.6, time-offset, and ISO 8601's shorter forms of an offset, as document 01 and
-- document 02, No. 6, widen them: none at all, and white space before a numeric one. Assumes nothing.
use Rattle.std.specs.Prelude.{Bool, true, false, List, [], ◌∷◌, ◌++◌, ℕ}
use Rattle.text.specs.Digits.{value}
use Rattle.white.specs.WhiteSpace.{White}
use Rattle.clock.specs.Grammar.{Figures}
use Rattle.offset.specs.declared.Offset.{Offset}

-- an offset as a text writes it: the sign, true for minus, hours and minutes
abbrev pub offset : Bool → ℕ → ℕ → Offset
offset s h m = record { minus = s; hour = h; minute = m }

abbrev pub utc : Offset
utc = offset false 0 0

-- White_Space characters, none or more (document 02, No. 6: "any leading whitespace of the Unicode kind is dropped")
pub data Blanks : List ℕ → Type 0 where
  no_blank : Blanks []
  blank : {w t : List ℕ} → White w → Blanks t → Blanks (w ++ t)

-- "+" or "-", true for minus
pub data Sign : ℕ → Bool → Type 0 where
  plus : Sign 0x2B false
  minus : Sign 0x2D true

-- time-numoffset = ("+" / "-") time-hour ":" time-minute: the bytes, and what they write
pub data TimeNumoffset : List ℕ → Offset → Type 0 where
  time_numoffset : (b : ℕ) (h m : List ℕ) {s : Bool} → Sign b s → Figures 2 h → Figures 2 m
      → TimeNumoffset (b ∷ (h ++ (0x3A ∷ m))) (offset s (value 0 h) (value 0 m))

-- an offset in figures
pub data Numoffset : List ℕ → Offset → Type 0 where
  extended : {t : List ℕ} {o : Offset} → TimeNumoffset t o → Numoffset t o
  -- RFC 3339, appendix A, of ISO 8601: time-numoffset = ("+" / "-") time-hour [[":"] time-minute]
  basic : (b : ℕ) (h m : List ℕ) {s : Bool} → Sign b s → Figures 2 h → Figures 2 m → Numoffset (b ∷ (h ++ m)) (offset s (value 0 h) (value 0 m))
  hours : (b : ℕ) (h : List ℕ) {s : Bool} → Sign b s → Figures 2 h → Numoffset (b ∷ h) (offset s (value 0 h) 0)

-- the same behind white space, which is dropped
pub data Numeric : List ℕ → Offset → Type 0 where
  numeric : (w x : List ℕ) {o : Offset} → Blanks w → Numoffset x o → Numeric (w ++ x) o

-- time-offset = "Z" / time-numoffset, with Z in either case; document 01: or none, which means UTC too
pub data Ending : List ℕ → Offset → Type 0 where
  none_given : Ending [] utc
  capital_z : Ending (0x5A ∷ []) utc
  small_z : Ending (0x7A ∷ []) utc
  in_figures : {t : List ℕ} {o : Offset} → Numeric t o → Ending t o
