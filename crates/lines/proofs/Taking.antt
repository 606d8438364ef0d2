-- What `take_line` holds of a line, in a room of one byte more than the longest. Assumes nothing.
use mathlib.Core.Path.{◌≡◌, sym, ◌∙◌, ap}
use mathlib.Core.List.{List, ◌++◌}
use Prim.Native.Nat.{ℕ, suc, ◌+◌, ◌≤◌, ◌<◌, min}
use native.Mathlib.Omega.{arith}
use lib.Dec.{ltb}
use lib.ListN.{length, take, length-take, length-append}
use lib.Seq.{take_all, take-take}
use borrow.Author.Tests.{ltb-true, ltb-false, lt-ltb, le-ltb}
use Rattle.std.specs.Prelude.{None, Some}
use Rattle.text.proofs.Bools.{by_test}
use Rattle.lines.specs.Line.{told}
use Rattle.room.specs.Room.{appended}

-- as many bytes as there are, but one more than the longest at most; and the longest line's bytes are those of what was put
pub held_line : (room : ℕ) (held x : List ℕ)
    → (length (appended (suc room) held x) ≡ min (length held + length x) (suc room)) × (take room (appended (suc room) held x) ≡ appended room held x)
held_line room held x = (omega (arith, length-take (suc room) (held ++ x), length-append held x), take-take room (suc room) (held ++ x) (omega arith))

too_long : (longest : ℕ) (t : List ℕ) → longest < length t → told longest t ≡ None
unfolding told
too_long longest t h = rw (lt-ltb longest (length t) h)

short : (longest : ℕ) (t : List ℕ) → length t ≤ longest → told longest t ≡ Some t
unfolding told
short longest t h = rw (le-ltb longest (length t) h)

-- one byte more than the longest line's is held of bytes and more behind them, which tells as much as all of them
all_told : (longest : ℕ) (held x : List ℕ) → told longest (appended (suc longest) held x) ≡ told longest (held ++ x)
all_told longest held x = by_test (ltb longest (length held + length x))
    (λ p. let h : longest < length held + length x = ltb-true longest (length held + length x) p in
    too_long longest (appended (suc longest) held x) (omega (arith, (held_line longest held x).0)) ∙ sym (too_long longest (held ++ x) (omega (arith, length-append held x))))
    (λ p. let h : length held + length x ≤ longest = ltb-false longest (length held + length x) p in
    ap (told longest) (take_all (suc longest) (held ++ x) (omega (arith, length-append held x))))

-- two lines of which the same is told are both too long or are one line, and so they are with more behind both
with_more : (longest : ℕ) (s t x : List ℕ) → told longest s ≡ told longest t → told longest (s ++ x) ≡ told longest (t ++ x)
with_more longest s t x e = by_test (ltb longest (length s))
    (λ p. let h : longest < length s = ltb-true longest (length s) p in
    by_test (ltb longest (length t))
    (λ q. let k : longest < length t = ltb-true longest (length t) q in
    too_long longest (s ++ x) (omega (arith, length-append s x)) ∙ sym (too_long longest (t ++ x) (omega (arith, length-append t x))))
    (λ q. let n : Some t ≡ None = sym (short longest t (ltb-false longest (length t) q)) ∙ (sym e ∙ too_long longest s h) in cc))
    (λ p. let m : told longest s ≡ Some s = short longest s (ltb-false longest (length s) p) in
    by_test (ltb longest (length t))
    (λ q. let n : Some s ≡ None = sym m ∙ (e ∙ too_long longest t (ltb-true longest (length t) q)) in cc)
    (λ q. let n : Some s ≡ Some t = sym m ∙ (e ∙ short longest t (ltb-false longest (length t) q)) in
    let same : s ≡ t = cc in
    rw same))

-- what is told of a line whose bytes are t, and of more bytes behind them, is what is told of what is held
pub told_line : (longest : ℕ) (held x t : List ℕ) → told longest held ≡ told longest t → told longest (appended (suc longest) held x) ≡ told longest (t ++ x)
told_line longest held x t e = all_told longest held x ∙ with_more longest held t x e

-- as the programs read lines
pub of_65536 : (held x t : List ℕ) → told 65536 held ≡ told 65536 t → told 65536 (appended 65537 held x) ≡ told 65536 (t ++ x)
of_65536 = told_line 65536
