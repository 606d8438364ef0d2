-- How far the day of a text of at most 10 bytes lies from 1970-01-01. Assumes nothing.
use mathlib.Core.Path.{◌≡◌, refl, ap, sym, ◌∙◌}
use mathlib.Core.Bool.{true, false, false≢true}
use mathlib.Core.List.{List, ◌∷◌, ◌++◌}
use Prim.Native.Nat.{ℕ, ◌+◌, ◌^◌, ◌≤◌, ◌<◌}
use native.Mathlib.Omega.{arith}
use lib.Dec.{eqb}
use lib.ListN.{length, length-append}
use lib.IntN.{ℤ, pos}
use borrow.Author.Tests.{eqb-true, eqb-false}
use Rattle.calendar.proofs.Bounds.{Within, civil_most}
use Rattle.number.specs.Decimal.{one_or_more, Numeral, plain, plus, minus}
use Rattle.number.proofs.Agreement.{some_digits}
use Rattle.number.proofs.Zed.{P, N, P-neg, N-neg}
use Rattle.refusal.specs.Outcome.{accepted}
use Rattle.text.specs.Digits.{value}
use Rattle.text.proofs.Bools.{by_test}
use Rattle.clock.specs.Grammar.{figures}
use Rattle.clock.proofs.Bounds.{figures_most}
use Rattle.date.specs.Grammar.{DateText, compact, hyphens, signed, NamesDay, of_date, of_stamp}
use Rattle.date.specs.Answer.{is_sign, day_named}
use Rattle.date.proofs.Agreement.{is_sign_lem, first_digit, agrees}

number_size : {m : List ℕ} {z : ℤ} → Numeral false m z → 1 ≤ length m
number_size (plain d) = omega (arith, some_digits d)
number_size (plus d) = omega (arith, some_digits d)
number_size (minus e d) = absurd (false≢true e)

-- the number of the digits behind a sign
year_size : {t : List ℕ} {z : ℤ} → Numeral true t z → (s : ℕ) (y : List ℕ) → t ≡ s ∷ y → is_sign s ≡ true → P z + N z ≡ value 0 y
year_size (plain (one_or_more {b} {t} p q)) s y e g =
    let w : b ≡ s = cc in absurd (false≢true (sym (first_digit b p) ∙ ap is_sign w ∙ g))
year_size (plus {t} d) s y e g = let w : t ≡ y = cc in omega (arith, ap (value 0) w)
year_size (minus {t} r d) s y e g = let w : t ≡ y = cc in omega (arith, ap (value 0) w, P-neg (pos (value 0 t)), N-neg (pos (value 0 t)))

-- a year of at most five digits
five : (y : List ℕ) (v : ℕ) → 4 ≤ length y → length y ≤ 5 → v < 10 ^ length y → v < 100000
five y v p q h =
    by_test (eqb (length y) 4)
    (λ e. let l : v < 10 ^ 4 = rw (eqb-true (length y) 4 e) at h in omega arith)
    (λ e. let k : length y ≡ 5 = omega (arith, eqb-false (length y) 4 e) in let l : v < 10 ^ 5 = rw k at h in l)

year_most : {t : List ℕ} {y : ℤ} {m d : ℕ} → DateText t y m d → length t ≤ 10 → P y + N y < 100000
year_most (compact y m d p q r) l = omega (arith, figures_most p)
year_most (hyphens y m d i p q r e k) l = omega (arith, figures_most p)
year_most (signed s y m d {z} g h e n f p u q v) l =
    let w = year_size n s y refl (is_sign_lem g) in
    let k : value 0 y < 100000 =
    five y (value 0 y) h
    (omega (arith, length-append y (0x2D ∷ (m ++ (0x2D ∷ d))), length-append m (0x2D ∷ d), number_size p, number_size q))
    (figures_most (figures {t = y} refl e)) in
    omega (arith, w)

-- within 37,400,000 days
pub short_most : (t : List ℕ) (z : ℤ) → day_named t ≡ accepted z → length t ≤ 10 → Within 37400000 z
short_most t z e l = by ((agrees t z).1 e)
  where
    by : {z : ℤ} → NamesDay t z → Within 37400000 z
    by (of_date {y = y} {m = m} {d = d} z x u c) = let w = civil_most y m d z c in let k = year_most x l in (omega (arith, w), omega (arith, w))
    by (of_stamp x n h) = absurd (omega arith)
