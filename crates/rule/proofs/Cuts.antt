-- Cutting toward zero, as a whole part and a fraction: what an amount times a unit comes to. Assumes nothing.
use mathlib.Core.Path.{◌≡◌, refl, sym, ap, ◌∙◌}
use mathlib.Core.Bool.{Bool, true, false}
use Prim.Native.Nat.{ℕ, zero, suc, ◌+◌, ◌*◌, ◌/◌, ◌^◌, ◌<◌}
use native.Mathlib.Nat.{mul-add-div_right, mul-div-mul_right, mul_assoc, mul_comm, zero-div}
use native.Mathlib.Omega.{arith}
use lib.IntN.{ℤ, pos, negsuc, neg_ℤ, ◌+ℤ◌, ◌*ℤ◌}
use lib.Signed.{quot_z}
use Rattle.number.specs.Widths.{signed}
use Rattle.number.proofs.Zed.{P-neg, N-neg, add_pn, mul_p, mul_n, eq_of}
use Rattle.text.proofs.Values.{ten_pos}
use Rattle.amount.specs.Grammar.{Value}
use Rattle.amount.specs.Read.{SameSign}
use Rattle.rule.specs.Contribution.{times, whole_times, frac_times}

-- ---- a sign goes through products, quotients and sums

pub mul_signed : (b : Bool) (m k : ℕ) → signed b m *ℤ pos k ≡ signed b (m * k)
mul_signed true m k =
    eq_of (neg_ℤ (pos m) *ℤ pos k) (neg_ℤ (pos (m * k))) (omega (arith, mul_p (neg_ℤ (pos m)) k, mul_n (neg_ℤ (pos m)) k, ap (λ (x : ℕ). x * k) (P-neg (pos m)), ap (λ (x : ℕ). x * k) (N-neg (pos m)), P-neg (pos (m * k)), N-neg (pos (m * k))))
mul_signed false m k = refl

pub quot_signed : (b : Bool) (m c : ℕ) → quot_z (signed b m) (pos c) ≡ signed b (m / c)
quot_signed true zero c = rw zero-div
quot_signed true (suc m) c = refl
quot_signed false m c = refl

pub add_signed : (b : Bool) (m j : ℕ) → signed b m +ℤ signed b j ≡ signed b (m + j)
add_signed true m j =
    eq_of (neg_ℤ (pos m) +ℤ neg_ℤ (pos j)) (neg_ℤ (pos (m + j))) (omega (arith, add_pn (neg_ℤ (pos m)) (neg_ℤ (pos j)), P-neg (pos m), N-neg (pos m), P-neg (pos j), N-neg (pos j), P-neg (pos (m + j)), N-neg (pos (m + j))))
add_signed false m j = refl

-- the part of a fraction
pub part_signed : (b : Bool) (j a c : ℕ) → quot_z (signed b j *ℤ pos a) (pos c) ≡ signed b (j * a / c)
part_signed b j a c = rw (mul_signed b j a) (quot_signed b (j * a) c)

-- ---- whole part and fraction

cut : (w f k s : ℕ) → 0 < s → (w * s + f) * k / s ≡ w * k + f * k / s
cut w f k s h =
    let e : (w * s + f) * k ≡ (w * k) * s + f * k = omega arith in
    rw e (mul-add-div_right h (w * k) (f * k))

cut_signed : (b : Bool) (w f k s : ℕ) → 0 < s → quot_z ((signed b w *ℤ pos s +ℤ signed b f) *ℤ pos k) (pos s) ≡ signed b w *ℤ pos k +ℤ quot_z (signed b f *ℤ pos k) (pos s)
cut_signed b w f k s h =
    rw (mul_signed b w s, add_signed b (w * s) f, mul_signed b (w * s + f) k, quot_signed b ((w * s + f) * k) s, cut w f k s h, mul_signed b w k, part_signed b f k s)
    (sym (add_signed b (w * k) (f * k / s)))

-- an amount times k, cut, is its whole part times k and its fraction times k, cut
pub times_cut : (n k : ℕ) (a : Value) → SameSign a.integer a.frac → times n k a ≡ whole_times k a +ℤ frac_times n k a
unfolding times whole_times frac_times
times_cut n k a S = rw (S.whole_is, S.part_is) (cut_signed S.neg S.whole S.part k (10 ^ n) (ten_pos n))

-- ---- the fraction's factor k over s may be any other ratio a over c of the same size

ratio : (f k s a c : ℕ) → 0 < s → 0 < c → k * c ≡ a * s → f * k / s ≡ f * a / c
ratio f k s a c p q e =
    let l : f * k * c ≡ f * a * s = mul_assoc f k c ∙ rw e (sym (mul_assoc f a s)) in
    sym (mul-div-mul_right (f * k) s q) ∙ rw (l, mul_comm s c) (mul-div-mul_right (f * a) c p)

ratio_signed : (b : Bool) (f k s a c : ℕ) → 0 < s → 0 < c → k * c ≡ a * s → quot_z (signed b f *ℤ pos k) (pos s) ≡ quot_z (signed b f *ℤ pos a) (pos c)
ratio_signed b f k s a c p q e = rw (part_signed b f k s, part_signed b f a c, ratio f k s a c p q e)

pub frac_ratio : (f : ℤ) (k s a c : ℕ) → 0 < s → 0 < c → k * c ≡ a * s → quot_z (f *ℤ pos k) (pos s) ≡ quot_z (f *ℤ pos a) (pos c)
frac_ratio (pos f) k s a c p q e = ratio_signed false f k s a c p q e
frac_ratio (negsuc f) k s a c p q e = ratio_signed true (suc f) k s a c p q e
