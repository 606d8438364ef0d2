-- Runs of digits. Assumes nothing.
use Rattle.std.proofs.Common.{◌≡◌, ℕ, suc, ◌+◌, true, false, List, [], ◌∷◌, ◌++◌, length, get_or, take, refl, ap, arith}
use Rattle.text.specs.Digits.{is_digit, digits, run}
use Rattle.text.proofs.Bools.{and_left, and_right, by_test}

-- digits before what is none
pub run_all : (f e : List ℕ) → digits f ≡ true → is_digit (get_or e 0 0) ≡ false → run (f ++ e) ≡ length f
unfolding run digits
run_all [] [] p q = refl
run_all [] (b ∷ e) p q = rw q
run_all (b ∷ f) e p q = rw (and_left (is_digit b) (digits f) p) (ap suc (run_all f e (and_right (is_digit b) (digits f) p) q))

-- digits in front of a text
pub run_past : (f e : List ℕ) → digits f ≡ true → run (f ++ e) ≡ length f + run e
unfolding run digits
run_past [] e p = omega arith
run_past (b ∷ f) e p = rw (and_left (is_digit b) (digits f) p) (omega (arith, run_past f e (and_right (is_digit b) (digits f) p)))

-- a run is digits
pub run_digits : (t : List ℕ) → digits (take (run t) t) ≡ true
unfolding run digits
run_digits [] = refl
run_digits (b ∷ t) = by_test (is_digit b) (λ e. rw e (rw e (run_digits t))) (λ e. rw e)
