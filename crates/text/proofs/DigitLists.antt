-- Lists of digits: the first, one more, the last, and the numbers of one, two and four; digits behind others; a run of digits is its own run.
-- Assumes nothing.
use Rattle.std.proofs.Common.{◌≡◌, ℕ, suc, ◌+◌, ◌-◌, ◌*◌, ◌^◌, Bool, true, false, cond, List, [], ◌∷◌, length, get_or, take, refl, pow-suc, sub-one, arith}
use Rattle.text.specs.Digits.{is_digit, worth, digits, value, run}
use Rattle.text.proofs.Bools.{and_left, and_right}

pub digits_head : (b : ℕ) (t : List ℕ) → digits (b ∷ t) ≡ true → (is_digit b ≡ true) × (digits t ≡ true)
unfolding digits
digits_head b t e = (and_left (is_digit b) (digits t) e, and_right (is_digit b) (digits t) e)

pub all_digits : (b : ℕ) (f : List ℕ) → is_digit b ≡ true → digits f ≡ true → digits (b ∷ f) ≡ true
unfolding digits
all_digits b f p q = rw (p, q)

-- the last of some digits
pub last_digit : (b : ℕ) (f : List ℕ) → digits (b ∷ f) ≡ true → is_digit (get_or (b ∷ f) (length (b ∷ f) - 1) 0) ≡ true
unfolding digits
last_digit b [] e = and_left (is_digit b) true e
last_digit b (c ∷ f) e = rw sub-one (rw sub-one at (last_digit c f (and_right (is_digit b) (digits (c ∷ f)) e)))

-- ---- numbers of digits
pub one_value : (a : ℕ) → value 0 (a ∷ []) ≡ worth a
unfolding value
one_value a = omega arith

pub two_value : (a b : ℕ) → value 0 (a ∷ b ∷ []) ≡ worth a * 10 + worth b
unfolding value
two_value a b = omega arith

pub four_value : (a b c d : ℕ) → value 0 (a ∷ b ∷ c ∷ d ∷ []) ≡ (worth a * 10 + worth b) * 100 + (worth c * 10 + worth d)
unfolding value
four_value a b c d = omega arith

-- digits behind a number write it times ten to their count, and their own
pub value_behind : (t : List ℕ) (a : ℕ) → value a t ≡ a * 10 ^ length t + value 0 t
unfolding value
value_behind [] a = omega arith
value_behind (b ∷ t) a =
    rw (pow-suc 10 (length t)) (omega (arith, value_behind t (a * 10 + worth b), value_behind t (0 * 10 + worth b)))

-- ---- a run of digits is its own run

pub run_take : (t : List ℕ) → run (take (run t) t) ≡ run t
unfolding run
run_take [] = refl
run_take (b ∷ t) = by (is_digit b) refl (run_take t)
  where
    by : (x : Bool) → is_digit b ≡ x → run (take (run t) t) ≡ run t → run (take (cond x (suc (run t)) 0) (b ∷ t)) ≡ cond x (suc (run t)) 0
    by true e h = rw (e, h)
    by false e h = refl
