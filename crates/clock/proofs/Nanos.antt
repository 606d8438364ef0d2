-- Fraction digits as nanoseconds, as the code counts them: a digit more, and the end of the digits. Assumes nothing.
use mathlib.Core.Path.{◌≡◌, sym, ap, ◌∙◌}
use mathlib.Core.List.{List, [], ◌∷◌}
use Prim.Native.Nat.{ℕ, suc, ◌+◌, ◌*◌, ◌-◌, ◌^◌, ◌≤◌, ◌<◌}
use native.Mathlib.Omega.{arith}
use native.Mathlib.Numerals.{add-one}
use native.Mathlib.Nat.{le_trans, le-mul_of_pos_right}
use lib.Dec.{ltb}
use lib.ListN.{get_or, length, take, drop, length-take, get_or-eq_default}
use lib.Pow.{pow-add}
use lib.Seq.{drop-cons, take-nil}
use borrow.Author.Tests.{ltb-true, ltb-false}
use Rattle.text.specs.Digits.{worth, digit_of, value, run}
use Rattle.text.proofs.Bools.{by_test}
use Rattle.text.proofs.DigitLaws.{is_digit_lem, is_worth, run_on, run_off, run_end, grows}
use Rattle.text.proofs.Values.{ten_pos}

-- at most k digits, and the places that they leave of k
pub places : (k : ℕ) (f : List ℕ) → 10 ^ length (take k f) * 10 ^ (k - length (take k f)) ≡ 10 ^ k
places k f =
    let h : length (take k f) ≤ k = omega (arith, length-take k f) in
    let e : length (take k f) + (k - length (take k f)) ≡ k = omega arith in
    sym (pow-add 10 (length (take k f)) (k - length (take k f))) ∙ ap (λ (n : ℕ). 10 ^ n) e

-- ---- digits f behind the number a, where k places are left

abbrev pub behind : ℕ → ℕ → List ℕ → ℕ
behind k a f = value a (take k f) * 10 ^ (k - length (take k f))

none_behind : (k a : ℕ) → behind k a [] ≡ a * 10 ^ k
unfolding value
none_behind k a = let z : k - 0 ≡ k = omega arith in rw (take-nil k, z)

one_more : (k a b : ℕ) (f : List ℕ) → behind (suc k) a (b ∷ f) ≡ behind k (a * 10 + worth b) f
unfolding value
one_more k a b f = let e : suc k - suc (length (take k f)) ≡ k - length (take k f) = omega arith in rw e

-- where no place is left
pub all_counted : (a : ℕ) (f : List ℕ) → behind 0 a f ≡ a
unfolding value
all_counted a f = omega arith

pub grows_behind : (k a : ℕ) (f : List ℕ) → a ≤ behind k a f
grows_behind k a f =
    le_trans {m = value a (take k f)} (grows (take k f) a) (le-mul_of_pos_right (value a (take k f)) (ten_pos (k - length (take k f))))

-- ---- the digits that a text begins with

abbrev pub led : List ℕ → List ℕ
led t = take (run t) t

-- d is the byte at i less 48; past the end that is 208
module _ (s : List ℕ) (i d : ℕ) (fits : get_or s i 0 < 256) (e : d ≡ digit_of (get_or s i 0)) where
  pub inside : d < 10 → i < length s
  inside g =
      by_test (ltb i (length s))
      (λ t. ltb-true i (length s) t)
      (λ t. absurd (omega (arith, get_or-eq_default s 0 {n = i} (ltb-false i (length s) t))))

  pub ends_here : 10 ≤ d → run (drop i s) ≡ 0
  ends_here g =
      by_test (ltb i (length s))
      (λ t. run_off s i d (ltb-true i (length s) t) fits e g)
      (λ t. run_end s i (ltb-false i (length s) t))

  pub goes_on : d < 10 → run (drop i s) ≡ suc (run (drop (i + 1) s))
  goes_on g = run_on s i d (inside g) fits e g

  led_off : 10 ≤ d → led (drop i s) ≡ []
  led_off g = rw (ends_here g)

  led_on : d < 10 → led (drop i s) ≡ get_or s i 0 ∷ led (drop (i + 1) s)
  unfolding run
  led_on g = rw (drop-cons s i 0 (inside g), is_digit_lem (get_or s i 0) d fits e g, add-one)

  pub no_digit_here : (k a : ℕ) → 10 ≤ d → behind k a (led (drop i s)) ≡ a * 10 ^ k
  no_digit_here k a g = rw (led_off g) (none_behind k a)

  pub digit_here : (k a : ℕ) → i < k → d < 10 → behind (k - i) a (led (drop i s)) ≡ behind (k - (i + 1)) (a * 10 + d) (led (drop (i + 1) s))
  digit_here k a l g =
      let z : k - i ≡ suc (k - (i + 1)) = omega arith in
      rw (z, led_on g, one_more (k - (i + 1)) a (get_or s i 0) (led (drop (i + 1) s)), is_worth (get_or s i 0) d fits e g)
