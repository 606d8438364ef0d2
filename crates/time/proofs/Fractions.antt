-- What follows the seconds: nothing, or a point and digits to the end. Assumes nothing.
use mathlib.Core.Path.{◌≡◌, refl, sym, ◌∙◌}
use mathlib.Core.Bool.{true, false}
use mathlib.Core.List.{List, [], ◌∷◌, append-nil}
use Rattle.std.specs.Prelude.{None, Some}
use Prim.Native.Nat.{ℕ, ◌≤◌, ◌<◌}
use native.Mathlib.Omega.{arith}
use lib.Dec.{eqb, lit<}
use lib.ListN.{get_or, length, take, drop}
use lib.Seq.{take_all}
use borrow.Author.Tests.{eq-eqb}
use Rattle.text.specs.Digits.{digit_of, digits, run}
use Rattle.text.proofs.Bools.{and_false, by_test}
use Rattle.text.proofs.TwoDigits.{sign}
use Rattle.clock.specs.Clock.{nanos_of}
use Rattle.text.proofs.Runs.{run_all, run_digits}
use Rattle.time.specs.Answer.{fraction_of}

-- digits that end before the end are not all there is
run_short : (t : List ℕ) → run t < length t → digits t ≡ false
run_short t h = by_test (digits t) (λ e. absurd (omega (arith, rw (append-nil t) at (run_all t [] e refl)))) (λ e. e)

-- a byte with no digits behind it, or with more than digits
pub no_fraction : (s : List ℕ) → 0 < length s → (0 < length (drop 1 s) → run (drop 1 s) < length (drop 1 s)) → None ≡ fraction_of s
no_fraction [] l h = absurd (omega arith)
no_fraction (b ∷ []) l h = refl
no_fraction (b ∷ c ∷ f) l h = rw (run_short (c ∷ f) (h (omega arith)), and_false (eqb b 0x2E))

-- a point, which less 48 is 254, and digits to the end
pub whole_fraction :
    (s : List ℕ) → get_or s 0 0 < 256 → digit_of (get_or s 0 0) ≡ 254 → 0 < run (drop 1 s) → length (drop 1 s) ≤ run (drop 1 s) →
    Some (nanos_of (take (run (drop 1 s)) (drop 1 s))) ≡ fraction_of s
unfolding run
whole_fraction [] b p z l = absurd (omega (arith, p))
whole_fraction (c ∷ []) b p z l = absurd (omega arith)
whole_fraction (c ∷ d ∷ f) b p z l =
    let t = d ∷ f in
    let w : take (run t) t ≡ t = take_all (run t) t l in
    let q : eqb c 0x2E ≡ true = sym (sign c 254 0x2E b (lit< tt) refl) ∙ eq-eqb (digit_of c) 254 p in
    rw (w, q, rw w at (run_digits t)) refl
