-- What an amount of a unit comes to, as the code counts it: whole part and fraction both carry the sign, powers of ten go out of a
-- fraction's factor and divisor, and a count is exact or does not fit. Assumes nothing.
use mathlib.Core.Path.{◌≡◌, refl, sym, ap, ◌∙◌}
use mathlib.Core.Bool.{true, false}
use Rattle.std.specs.Prelude.{None, Some}
use Rattle.std.proofs.lemmas.Option.{none-some, cond_some}
use Prim.Native.Nat.{ℕ, suc, ◌+◌, ◌*◌, ◌/◌, ◌^◌, ◌≤◌, ◌<◌}
use native.Mathlib.Nat.{mul-le-mul_left, mul-le-mul_right, div-lt_iff_lt-mul, div-le_self}
use native.Mathlib.Omega.{arith}
use lib.IntN.{ℤ, pos, negsuc, nat_abs, ◌+ℤ◌, ◌*ℤ◌}
use lib.Signed.{mag, quot_z}
use borrow.Author.Tests.{ltb-true}
use mir.Syntax.{Width, w64}
use mir.Val.{SFits, hbits, to_z}
use mir.Facts.{to_z-of_z, to_z_pos}
use Rattle.text.proofs.Bools.{by_test, and_false}
use Rattle.number.specs.Widths.{in_signed, fit}
use Rattle.number.proofs.Zed.{abs_neg, abs_zero, P, N, add_pn, mul_p, mul_n, eq_of}
use Rattle.number.proofs.Ranges.{rd, fit_yes}
use Rattle.number.proofs.Sizes.{small_fits}
use Rattle.amount.specs.Grammar.{precision}
use Rattle.amount.specs.declared.held.IntervalAmount.{IntervalAmount}
use Rattle.text.proofs.Values.{ten_pos}
use Rattle.amount.specs.Read.{value_of, SameSign}
use Rattle.rule.specs.Contribution.{Counts, counts, times, whole_times, frac_times, fits, plus}
use Rattle.total.specs.Helpers.{Ratio, fitting, added}
use Rattle.rule.proofs.Cuts.{part_signed, times_cut, frac_ratio}

add_none : (z : ℤ) → z +ℤ pos 0 ≡ z
add_none z = eq_of (z +ℤ pos 0) z (omega (arith, add_pn z (pos 0)))

times_one : (z : ℤ) → z *ℤ pos 1 ≡ z
times_one z = eq_of (z *ℤ pos 1) z (omega (arith, mul_p z 1, mul_n z 1))

-- ---- a part of a fraction: its factor is a, its divisor is c

abs_mul : (z : ℤ) (a : ℕ) → nat_abs (z *ℤ pos a) ≡ nat_abs z * a
abs_mul (pos n) a = refl
abs_mul (negsuc n) a = abs_neg (suc n * a)

abs_quot : (z : ℤ) (c : ℕ) → nat_abs (quot_z z (pos c)) ≡ nat_abs z / c
abs_quot (pos n) c = refl
abs_quot (negsuc n) c = abs_neg (suc n / c)

size_of : (z : ℤ) {m : ℕ} → P z ≤ N z + m → N z ≤ P z + m → nat_abs z ≤ m
size_of (pos n) h l = omega arith
size_of (negsuc n) h l = omega arith

module _ (f : ℤ) (b : nat_abs f < 10 ^ precision) (a c : ℕ) (h : a ≤ 6048) where
  product_small : nat_abs (f *ℤ pos a) < 2 ^ 63
  product_small =
      let m : nat_abs f * a ≤ nat_abs f * 6048 = mul-le-mul_left (nat_abs f) h in
      omega (arith, abs_mul f a)

  quot_fits : SFits w64 (quot_z (f *ℤ pos a) (pos c))
  quot_fits = small_fits w64 (quot_z (f *ℤ pos a) (pos c)) (omega (arith, product_small, abs_quot (f *ℤ pos a) c, div-le_self (nat_abs (f *ℤ pos a)) c))

  -- r is the part
  module _ {r : ℤ} (R : r ≡ quot_z (f *ℤ pos a) (pos c)) where
    pub part_fits : SFits w64 r
    part_fits = rw R quot_fits

    pub part_reads : rd w64 r ≡ quot_z (f *ℤ pos a) (pos c)
    part_reads = to_z-of_z part_fits ∙ R

    -- where a over c is k over ten to the limit, it is below k
    pub part_most : {k : ℕ} → 0 < c → k * c ≡ a * 10 ^ precision → k ≤ 1200 → nat_abs (rd w64 r) ≤ 1200
    part_most {k} p q u =
        let m : nat_abs f * a ≤ 10 ^ precision * a = mul-le-mul_right a (omega arith) in
        let n : k * c ≤ 1200 * c = mul-le-mul_right c u in
        let d : nat_abs f * a / c < 1201 = (div-lt_iff_lt-mul {k = c} {x = nat_abs f * a} {y = 1201} p).1 (omega arith) in
        rw part_reads (omega (arith, abs_quot (f *ℤ pos a) c, ap (λ (x : ℕ). x / c) (abs_mul f a)))

-- ---- an amount x as the machine has its parts; a over c is a unit's factor k over ten to the limit

module _ (x : IntervalAmount) (F : SFits w64 x.integer) (b : nat_abs x.frac < 10 ^ precision) where
  pub whole_once : rd w64 x.integer ≡ whole_times 1 (value_of x)
  unfolding whole_times
  whole_once = to_z-of_z F ∙ sym (times_one x.integer)

  pub cut_whole : (k : ℕ) → rd w64 x.integer *ℤ pos k +ℤ pos 0 ≡ whole_times k (value_of x)
  unfolding whole_times
  cut_whole k = rw (to_z-of_z F) (add_none (x.integer *ℤ pos k))

  -- r is its part
  module _ (k a c : ℕ) (h : a ≤ 6048) (p : 0 < c) (q : k * c ≡ a * 10 ^ precision) {r : ℤ} (R : r ≡ quot_z (x.frac *ℤ pos a) (pos c)) where
    pub part_times : rd w64 r ≡ frac_times precision k (value_of x)
    unfolding frac_times
    part_times = part_reads x.frac b a c h R ∙ sym (frac_ratio x.frac k (10 ^ precision) a c (ten_pos precision) p q)

    pub cut_times : SameSign x.integer x.frac → rd w64 x.integer *ℤ pos k +ℤ rd w64 r ≡ times precision k (value_of x)
    unfolding whole_times
    cut_times S = rw (to_z-of_z F, part_times) (sym (times_cut precision k (value_of x) S))

    -- it has the sign of the whole
    pub same_sign : SameSign x.integer x.frac → SameSign (rd w64 x.integer) (rd w64 r)
    same_sign S =
        record {
          neg = S.neg;
          whole = S.whole;
          part = S.part * a / c;
          whole_is = to_z-of_z F ∙ S.whole_is;
          part_is = part_reads x.frac b a c h R ∙ rw S.part_is (part_signed S.neg S.part a c);
        }

    -- it is a count by itself
    pub cut_fits : Some (rd w64 r) ≡ fit 63 (frac_times precision k (value_of x))
    cut_fits =
        let f = part_fits x.frac b a c h R in
        fit_yes f ∙ ap (fit 63) (sym (to_z-of_z f) ∙ part_times)

  -- a nanosecond's fraction comes to nothing
  no_part : frac_times precision 1 (value_of x) ≡ pos 0
  unfolding frac_times
  no_part =
      abs_zero (quot_z (x.frac *ℤ pos 1) (pos (10 ^ precision))) (omega (arith, abs_quot (x.frac *ℤ pos 1) (10 ^ precision), abs_mul x.frac 1))

  pub whole_fits_lem : SameSign x.integer x.frac → Some (rd w64 x.integer) ≡ fit 63 (times precision 1 (value_of x))
  unfolding whole_times
  whole_fits_lem S =
      let e : times precision 1 (value_of x) ≡ x.integer = times_cut precision 1 (value_of x) S ∙ rw no_part (add_none (x.integer *ℤ pos 1) ∙ times_one x.integer) in
      fit_yes F ∙ ap (fit 63) (sym e)

-- ---- three counts

some_fit : (k : ℕ) (m z : ℤ) → Some m ≡ fit k z → (in_signed k z ≡ true) × (z ≡ m)
some_fit k m z e = cond_some (in_signed k z) z m (sym e)

none_fit : (k : ℕ) (z : ℤ) → None ≡ fit k z → in_signed k z ≡ false
none_fit k z e = by_test (in_signed k z) (λ t. absurd (none-some z (e ∙ rw t))) (λ t. t)

-- a number that fits is read back
pub fit_read : (w : Width) (m z : ℤ) → Some m ≡ fit (hbits w) z → rd w m ≡ m
fit_read w m z e =
    let p = some_fit (hbits w) m z e in
    let f : SFits w z = record { sfits = ltb-true (mag z) (2 ^ hbits w) p.0 } in
    rw p.1 at (to_z-of_z f)

module _ (x y z : ℤ) where
  pub three : {m d n : ℤ} → Some m ≡ fit 31 x → Some d ≡ fit 31 y → Some n ≡ fit 63 z → Some (counts m d n) ≡ fitting (counts x y z)
  unfolding fitting fits
  three {m} {d} {n} e f g =
      let p = some_fit 31 m x e in
      let q = some_fit 31 d y f in
      let r = some_fit 63 n z g in
      rw (p.0, q.0, r.0, p.1, q.1, r.1)

  pub no_months : None ≡ fit 31 x → None ≡ fitting (counts x y z)
  unfolding fitting fits
  no_months e = rw (none_fit 31 x e)

  pub no_days : None ≡ fit 31 y → None ≡ fitting (counts x y z)
  unfolding fitting fits
  no_days e = rw (none_fit 31 y e, and_false (in_signed 31 x))

  pub no_nanos : None ≡ fit 63 z → None ≡ fitting (counts x y z)
  unfolding fitting fits
  no_nanos e = rw (none_fit 63 z e, and_false (in_signed 31 y), and_false (in_signed 31 x))

-- ---- totals with a contribution

module _ (c k : Counts) where
  -- the contribution k fits, as m
  pub adds : {m : Counts} → Some m ≡ fitting k → fitting (plus c m) ≡ added c k
  unfolding fitting added
  adds {m} e =
      by_test (fits k)
      (λ f. let q : Some m ≡ Some k = e ∙ rw f in let r : m ≡ k = cc in rw (r, f))
      (λ f. absurd (none-some m (sym (e ∙ rw f))))

  -- or it does not
  pub over : None ≡ fitting k → None ≡ added c k
  unfolding fitting added
  over e =
      by_test (fits k)
      (λ f. absurd (none-some k (e ∙ rw f)))
      (λ f. rw f)

-- ---- a count of 32 bits: x times k, and p

pub count_is : {x p : ℤ} {k : ℕ} → SFits w64 x → SFits w64 p → k < 2 ^ 63 → {m s : ℤ} → SFits w64 (rd w64 x *ℤ to_z w64 k) × (m ≡ rd w64 x *ℤ to_z w64 k) → SFits w64 (rd w64 m +ℤ rd w64 p) × (s ≡ rd w64 m +ℤ rd w64 p) → rd w64 s ≡ x *ℤ pos k +ℤ p
count_is {x} {p} {k} fx fp K {m} {s} a b =
    let i : to_z w64 k ≡ pos k = to_z_pos w64 {n = k} (omega arith) in
    let e : m ≡ x *ℤ pos k = a.1 ∙ rw (to_z-of_z fx, i) in
    let fm : SFits w64 m = rw a.1 a.0 in
    let fs : SFits w64 s = rw b.1 b.0 in
    to_z-of_z fs ∙ b.1 ∙ rw (to_z-of_z fm, to_z-of_z fp, e)

-- ---- the factor of a fraction fits

pub ratio_small : {k a c : ℕ} → Ratio k a c → k < 2 ^ 63
ratio_small {k} {a} {c} R =
    let m : k * 1 ≤ k * c = mul-le-mul_left k (omega (arith, R.divides)) in
    omega (arith, R.same, R.factor_fits)
