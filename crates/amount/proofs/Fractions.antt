-- The digits behind a point as the code reads them, one by one with a running scale. The limit n is the most digits behind a point. Assumes
-- nothing.
use mathlib.Core.Path.{◌≡◌, refl, sym, ap, ◌∙◌}
use mathlib.Core.List.{List}
use Prim.Native.Nat.{ℕ, zero, suc, ◌+◌, ◌-◌, ◌*◌, ◌/◌, ◌^◌, ◌≤◌, ◌<◌}
use native.Mathlib.Nat.{sub-zero, pow-zero, pow-succ', pow-le-pow_right}
use native.Mathlib.Numerals.{add-one}
use native.Mathlib.Omega.{arith}
use lib.ListN.{length, get_or, take, drop}
use Rattle.text.specs.Digits.{digit_of, value, run}
use Rattle.text.proofs.Values.{ten_pos}
use Rattle.text.proofs.DigitLaws.{run_on}
use Rattle.amount.specs.Found.{PartIs}
use Rattle.amount.proofs.AmountLaws.{shifted_below}
use Rattle.amount.proofs.Amounts.{value_on, value_none, value_more}

-- ---- the running scale

-- the scale after k digits: 10^n before the first, and after each a tenth of what it was
unfoldable pub scale_after : (n k : ℕ) → ℕ
scale_after n zero = 10 ^ n
scale_after n (suc k) = scale_after n k / 10

scale_next : (n k : ℕ) → k < n → 10 ^ (n - k) / 10 ≡ 10 ^ (n - suc k)
scale_next n k h = let e : n - k ≡ suc (n - suc k) = omega arith in rw e (omega (arith, pow-succ' 10 (n - suc k)))

-- after k digits, k from 0 to n, the scale is ten to the power n less k
pub scale_after_lem : (n k : ℕ) → k ≤ n → scale_after n k ≡ 10 ^ (n - k)
unfolding scale_after
scale_after_lem n zero h = rw (sub-zero n)
scale_after_lem n (suc k) h = rw (scale_after_lem n k (omega arith)) (scale_next n k (omega arith))

-- ten to the power m is 1 exactly where m is 0

power_one : (m : ℕ) → 10 ^ m ≡ 1 → m ≡ 0
power_one zero e = refl
power_one (suc m) e = absurd (omega (arith, pow-succ' 10 m, ten_pos m))

power_more : (m : ℕ) → (10 ^ m ≡ 1 → ⊥) → 0 < m
power_more zero f = absurd (f (pow-zero 10))
power_more (suc m) f = omega arith

-- ---- the digits so far

-- the first i digits are read: v is their number
pub record Reading (n : ℕ) (s : List ℕ) (v scale i : ℕ) : Type 0 where
  pub most : i ≤ n
  pub scale_is : scale ≡ 10 ^ (n - i)
  pub small : v < 10 ^ i
  pub value_is : value_on s i v ≡ value_on s 0 0
  pub run_is : i + run (drop i s) ≡ run s

module _ {n : ℕ} {s : List ℕ} {v scale i : ℕ} (R : Reading n s v scale i) where
  -- the scale that the loop keeps is the running one
  pub running : scale ≡ scale_after n i
  running = R.scale_is ∙ sym (scale_after_lem n i R.most)

  pub size_below : v * scale < 10 ^ n
  size_below = rw R.scale_is (shifted_below n i R.most R.small)

  pub number_below : v < 10 ^ n
  number_below = omega (arith, R.small, pow-le-pow_right {n = 10} (omega arith) R.most)

  -- no place is left, or one is
  full : scale ≡ 1 → i ≡ n
  full e = omega (arith, power_one (n - i) (sym R.scale_is ∙ e), R.most)

  pub free : (scale ≡ 1 → ⊥) → i < n
  free e = omega (arith, power_more (n - i) (λ q. e (R.scale_is ∙ q)))

  -- no digit is left
  pub all_read : i ≤ length s → run (drop i s) ≡ 0 → PartIs n s (record { value = v * scale; len = i })
  all_read h z =
      let e : i ≡ run s = omega (arith, R.run_is) in
      let q : v ≡ value 0 (take (run s) s) = sym (value_none s i v z) ∙ R.value_is in
      record {
        value_is = rw (R.scale_is, e) (ap (λ (x : ℕ). x * 10 ^ (n - run s)) q);
        small = size_below;
        len_is = e;
        most = omega (arith, R.most);
        inside = h;
      }

  -- d is the digit at place i
  module _ {d : ℕ} (h : i < length s) (f : get_or s i 0 < 256) (e : d ≡ digit_of (get_or s i 0)) where
    pub too_many : d < 10 → scale ≡ 1 → n < run s
    too_many g u = omega (arith, full u, run_on s i d h f e g, R.run_is)

    pub reading_next : d < 10 → (scale ≡ 1 → ⊥) → Reading n s (v * 10 + d) (scale / 10) (i + 1)
    reading_next g u =
        record {
          most = omega (arith, free u);
          scale_is = rw (R.scale_is, add-one) (scale_next n i (free u));
          small = rw (add-one, pow-succ' 10 i) (omega (arith, R.small));
          value_is = sym (value_more s i v h f e g) ∙ R.value_is;
          run_is = omega (arith, run_on s i d h f e g, R.run_is);
        }
