-- The longest text of an interval has 68 bytes (document 02, No. 4). Assumes nothing.
use mathlib.Core.Path.{◌≡◌, refl}
use mathlib.Core.Bool.{true, ◌&&◌}
use mathlib.Core.List.{List, [], ◌∷◌, ◌++◌}
use Prim.Native.Nat.{ℕ, ◌+◌, ◌^◌, ◌≤◌}
use Prim.Native.String.{String}
use native.Mathlib.Omega.{arith}
use lib.Dec.{eqb}
use lib.ListN.{length}
use lib.IntN.{ℤ, negsuc, nat_abs}
use lib.Signed.{mag}
use mir.Syntax.{w32, w64}
use mir.Val.{SFits}
use borrow.Author.Tests.{lt-ltb}
use Rattle.std.proofs.lemmas.List.{length-append}
use Rattle.text.proofs.Bools.{by_test}
use Rattle.text.proofs.Logic.{both}
use Rattle.utf8.specs.Quoted.{bytes}
use Rattle.number.specs.Widths.{in_signed}
use Rattle.decimal.specs.Decimal.{decimal_in, decimal, signed_text}
use Rattle.decimal.proofs.Recursion.{in_width}
use Rattle.rule.specs.Contribution.{Counts, counts, fits}
use Rattle.interval_text.specs.Text.{part_before, parts, spaced, interval_text}
use Rattle.interval_text.proofs.Spacing.{tail, spaced_first}

-- a part, with the space before it
one_more : (z : ℤ) (word : String) (l : List (List ℕ)) (k : ℕ) → length (signed_text z) ≤ k
    → length (tail (part_before z word l)) ≤ (2 + k + length (bytes word)) + length (tail l)
unfolding part_before tail
one_more z word l k h =
    let p = signed_text z ++ (0x20 ∷ bytes word) in
    by_test (eqb (nat_abs z) 0) (λ t. rw (t) (omega arith))
    (λ t. rw (t, ← spaced_first p l) (omega (arith, length-append (signed_text z) (0x20 ∷ bytes word), length-append p (tail l))))

from_tail : (l : List (List ℕ)) → length (tail l) ≤ 69 → length (spaced l) ≤ 68
unfolding spaced tail
from_tail [] h = omega arith
from_tail (p ∷ l) h = omega arith

-- every interval's text has at most 68 bytes
pub longest : (c : Counts) → fits c ≡ true → length (interval_text c) ≤ 68
unfolding fits interval_text parts tail
longest c e =
    let f = both (in_signed 31 c.months) (in_signed 31 c.days && in_signed 63 c.nanos) e in
    let g = both (in_signed 31 c.days) (in_signed 63 c.nanos) f.1 in
    let m = in_width 31 10 c.months (omega arith) (omega arith) f.0 in
    let d = in_width 31 10 c.days (omega arith) (omega arith) g.0 in
    let n = in_width 63 19 c.nanos (omega arith) (omega arith) g.1 in
    from_tail (parts c) (omega (
      arith,
      one_more c.months "months" (part_before c.days "days" (part_before c.nanos "nanoseconds" [])) 11 m,
      one_more c.days "days" (part_before c.nanos "nanoseconds" []) 11 d,
      one_more c.nanos "nanoseconds" [] 20 n,
    ))

-- such as counts that the code holds
pub held : {m d n : ℤ} → SFits w32 m → SFits w32 d → SFits w64 n → length (interval_text (counts m d n)) ≤ 68
unfolding fits
held {m} {d} {n} f g h =
    longest (counts m d n) (rw (lt-ltb (mag m) (2 ^ 31) f.sfits, lt-ltb (mag d) (2 ^ 31) g.sfits, lt-ltb (mag n) (2 ^ 63) h.sfits) refl)

-- and one has 68
pub longest_is : length (interval_text (counts (negsuc 2_147_483_647) (negsuc 2_147_483_647) (negsuc 9_223_372_036_854_775_807))) ≡ 68
unfolding interval_text parts part_before spaced signed_text decimal decimal_in
longest_is = refl
