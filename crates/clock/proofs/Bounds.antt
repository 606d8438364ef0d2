-- How large a number of digits, a fraction and a time of day are. Assumes nothing.
use mathlib.Core.Path.{◌≡◌, refl}
use mathlib.Core.Bool.{true, ◌&&◌}
use mathlib.Core.List.{List, [], ◌∷◌}
use Prim.Native.Nat.{ℕ, zero, suc, ◌*◌, ◌-◌, ◌^◌, ◌≤◌, ◌<◌}
use native.Mathlib.Omega.{arith}
use native.Mathlib.Nat.{mul-lt-mul_of_pos_right}
use lib.Dec.{leb}
use lib.ListN.{length, take}
use borrow.Author.Tests.{leb-true}
use Rattle.text.specs.Digits.{is_digit, digits, value}
use Rattle.text.proofs.Bools.{and_left, and_right}
use Rattle.text.proofs.DigitLists.{all_digits}
use Rattle.text.proofs.Values.{ten_pos, value_below}
use Rattle.clock.specs.Clock.{Clock, in_range, nanos_of, since_midnight}
use Rattle.clock.specs.Grammar.{Figures, figures, Secfrac, no_fraction, fraction}
use Rattle.clock.proofs.Nanos.{places}

-- a number of n digits
pub figures_most : {n : ℕ} {t : List ℕ} → Figures n t → value 0 t < 10 ^ n
figures_most {n} {t} (figures h e) = rw (← h) (value_below t e)

-- the first digits of digits are digits
first_digits : (k : ℕ) (f : List ℕ) → digits f ≡ true → digits (take k f) ≡ true
unfolding digits
first_digits zero f e = refl
first_digits (suc k) [] e = refl
first_digits (suc k) (b ∷ f) e =
    rw (and_left (is_digit b) (digits f) e, first_digits k f (and_right (is_digit b) (digits f) e))

-- digits behind a point are less than a second
pub nanos_below : (f : List ℕ) → digits f ≡ true → nanos_of f < 1000000000
unfolding nanos_of
nanos_below f e =
    let v = value_below (take 9 f) (first_digits 9 f e) in
    let m : value 0 (take 9 f) * 10 ^ (9 - length (take 9 f)) < 10 ^ length (take 9 f) * 10 ^ (9 - length (take 9 f)) =
    mul-lt-mul_of_pos_right v (ten_pos (9 - length (take 9 f))) in
    rw (places 9 f) at m

pub secfrac_most : {x f : List ℕ} → Secfrac x f → nanos_of f < 1000000000
unfolding digits
secfrac_most no_fraction = nanos_below [] refl
secfrac_most (fraction {b} {f} p q) = nanos_below (b ∷ f) (all_digits b f p q)

-- a time in range
pub clock_most : (c : Clock) → nanos_of c.fraction < 1000000000 → in_range c.hour c.minute c.second ≡ true → since_midnight c ≤ 86401000000000
clock_most c f ok =
    let r = and_right (leb c.hour 23) (leb c.minute 59 && leb c.second 60) ok in
    omega (
      arith,
      leb-true c.hour 23 (and_left (leb c.hour 23) (leb c.minute 59 && leb c.second 60) ok),
      leb-true c.minute 59 (and_left (leb c.minute 59) (leb c.second 60) r),
      leb-true c.second 60 (and_right (leb c.minute 59) (leb c.second 60) r),
    )
