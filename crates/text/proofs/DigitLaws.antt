-- Bytes as digits: what a byte less 48 tells of the byte, and digits read from the front of a text. Assumes nothing.
use Rattle.std.proofs.Common.{◌≡◌, ℕ, suc, ◌+◌, ◌*◌, ◌<◌, ◌≤◌, true, false, leb, List, [], ◌∷◌, length, get_or, drop, le_trans, le_refl, add-one, arith, drop_of_length-le, drop-cons, leb-false, leb-true}
use Rattle.text.specs.Digits.{is_digit, worth, digit_of, digits, value, run}
use Rattle.text.proofs.Bools.{by_test, within_yes, within_under, within_over}

-- ---- a byte b and its digit d

module _ (b d : ℕ) (fits : b < 256) (e : d ≡ digit_of b) where
  pub is_digit_lem : d < 10 → is_digit b ≡ true
  is_digit_lem h = within_yes 0x30 b 0x39 (omega arith) (omega arith)

  pub no_digit : 10 ≤ d → is_digit b ≡ false
  no_digit h =
      by_test (leb 0x30 b)
      (λ t. within_over 0x30 b 0x39 (omega (arith, leb-true 0x30 b t)))
      (λ t. within_under 0x30 b 0x39 (leb-false 0x30 b t))

  pub is_worth : d < 10 → d ≡ worth b
  is_worth h = omega arith

-- ---- digits from place i of a text on, where d is the digit at i

module _ (s : List ℕ) (i d : ℕ) (h : i < length s) (fits : get_or s i 0 < 256) (e : d ≡ digit_of (get_or s i 0)) where
  pub digits_on : d < 10 → digits (drop i s) ≡ digits (drop (i + 1) s)
  unfolding digits
  digits_on g = rw (drop-cons s i 0 h, is_digit_lem (get_or s i 0) d fits e g, add-one)

  pub digits_off : 10 ≤ d → digits (drop i s) ≡ false
  unfolding digits
  digits_off g = rw (drop-cons s i 0 h, no_digit (get_or s i 0) d fits e g)

  pub value_on : (a : ℕ) → d < 10 → value a (drop i s) ≡ value (a * 10 + d) (drop (i + 1) s)
  unfolding value
  value_on a g = rw (drop-cons s i 0 h, add-one, is_worth (get_or s i 0) d fits e g)

  pub run_on : d < 10 → run (drop i s) ≡ suc (run (drop (i + 1) s))
  unfolding run
  run_on g = rw (drop-cons s i 0 h, is_digit_lem (get_or s i 0) d fits e g, add-one)

  pub run_off : 10 ≤ d → run (drop i s) ≡ 0
  unfolding run
  run_off g = rw (drop-cons s i 0 h, no_digit (get_or s i 0) d fits e g)

pub digits_end : (s : List ℕ) (i : ℕ) → length s ≤ i → digits (drop i s) ≡ true
unfolding digits
digits_end s i h = rw (drop_of_length-le s h)

pub value_end : (a : ℕ) (s : List ℕ) (i : ℕ) → length s ≤ i → value a (drop i s) ≡ a
unfolding value
value_end a s i h = rw (drop_of_length-le s h)

pub run_end : (s : List ℕ) (i : ℕ) → length s ≤ i → run (drop i s) ≡ 0
unfolding run
run_end s i h = rw (drop_of_length-le s h)

-- more digits make no smaller number
pub grows : (t : List ℕ) (a : ℕ) → a ≤ value a t
unfolding value
grows [] a = le_refl a
grows (b ∷ t) a = le_trans {m = a * 10 + worth b} (omega arith) (grows t (a * 10 + worth b))
