-- ASCII texts are well-formed UTF-8. Assumes nothing.
use mathlib.Core.Path.{◌≡◌, refl, subst, ◌∙◌}
use mathlib.Core.Bool.{true}
use mathlib.Core.List.{List, [], ◌∷◌, ◌++◌}
use Prim.Native.Nat.{ℕ, suc, ◌<◌}
use native.Mathlib.Omega.{arith}
use lib.Dec.{ltb}
use borrow.Author.Tests.{le-leb, lt-ltb, ltb-true}
use Rattle.std.specs.Str.{IsAscii}
use Rattle.text.specs.Digits.{is_digit, digits}
use Rattle.utf8.specs.Utf8.{encode, Utf8, scalar_then, well_formed, utf8, ascii}
use Rattle.text.proofs.Bools.{and_left, and_right, within_under, within_is}
use Rattle.utf8.proofs.Utf8Rows.{row_00}
use Rattle.utf8.proofs.Utf8Agrees.{lead}

pub ascii_cons : (b : ℕ) (t : List ℕ) → b < 0x80 → ascii t ≡ true → ascii (b ∷ t) ≡ true
unfolding ascii
ascii_cons b t h e = rw (lt-ltb b 0x80 h, e)

pub ascii_append : (s t : List ℕ) → ascii s ≡ true → ascii t ≡ true → ascii (s ++ t) ≡ true
unfolding ascii
ascii_append [] t e f = f
ascii_append (b ∷ s) t e f =
    rw (and_left (ltb b 0x80) (ascii s) e) (ascii_append s t (and_right (ltb b 0x80) (ascii s) e) f)

pub ascii_nil : ascii [] ≡ true
unfolding ascii
ascii_nil = refl

pub ascii_digits : (t : List ℕ) → digits t ≡ true → ascii t ≡ true
unfolding ascii digits
ascii_digits [] e = refl
ascii_digits (b ∷ t) e =
    let w = within_is 0x30 b 0x39 (and_left (is_digit b) (digits t) e) in
    ascii_cons b t (omega arith) (ascii_digits t (and_right (is_digit b) (digits t) e))

pub ascii_utf8 : (t : List ℕ) → ascii t ≡ true → utf8 t ≡ true
unfolding ascii well_formed
ascii_utf8 [] e = refl
ascii_utf8 (b ∷ t) e =
    let h = ltb-true b 0x80 (and_left (ltb b 0x80) (ascii t) e) in
    lead 0x80 0xBF b t 0 0x80 0xBF (row_00 b (omega arith)) ∙ ascii_utf8 t (and_right (ltb b 0x80) (ascii t) e)

-- what the library's `is_ascii` tells
pub told : (t : List ℕ) → IsAscii t → utf8 t ≡ true
unfolding ascii
told t h = ascii_utf8 t (each t h)
  where
    each : (t : List ℕ) → IsAscii t → ascii t ≡ true
    each [] h = refl
    each (b ∷ t) h = ascii_cons b t (h 0) (each t (λ i. h (suc i)))

-- an ASCII character, and what is well-formed
pub ascii_then : {b : ℕ} {t : List ℕ} → b < 0x80 → Utf8 t → Utf8 (b ∷ t)
ascii_then {b} {t} p u =
    let e : encode b ++ t ≡ b ∷ t = rw (lt-ltb b 0x80 p) in
    subst Utf8 e (scalar_then b (rw (le-leb b 0x10FFFF (omega arith), within_under 0xD800 b 0xDFFF (omega arith))) u)
