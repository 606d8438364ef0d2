-- Amounts as the code reads them at a place: digits as a capped number, the whole part with its sign, the fraction. Assumes nothing.
use mathlib.Core.Path.{◌≡◌, refl, sym, ap, ◌∙◌}
use mathlib.Core.Bool.{Bool, true, false, cond, Bool-set}
use mathlib.Core.List.{List, [], ◌∷◌}
use Rattle.std.specs.Prelude.{None, Some, Result, Ok, Err}
use Prim.Native.Nat.{ℕ, zero, suc, ◌+◌, ◌-◌, ◌*◌, ◌^◌, ◌≤◌, ◌<◌, min}
use mathlib.Core.HLevel.{is_prop→PathP}
use native.Mathlib.Bridge.{le_prop}
use native.Mathlib.Nat.{add-zero}
use native.Mathlib.Numerals.{add-one}
use native.Mathlib.Omega.{arith}
use lib.Dec.{eqb, ltb}
use lib.IntN.{ℤ, pos}
use lib.ListN.{length, get_or, take, drop, length-drop, get_or-eq_default}
use lib.Seq.{take_all, get_or-drop, drop-drop, drop-cons}
use lib.Signed.{mag}
use mir.Syntax.{w64}
use mir.Val.{SFits}
use mir.Facts.{to_z-of_z}
use borrow.Author.Tests.{eqb-true, eq-eqb, ne_eqb, lt-ltb, ltb-true, ltb-false}
use Rattle.text.specs.Digits.{worth, digit_of, value, run, within}
use Rattle.text.proofs.Bools.{by_test, both_ways, within_yes, within_under, within_over}
use Rattle.text.proofs.DigitLaws.{is_worth, run_on, run_off, run_end}
use Rattle.number.specs.Widths.{in_signed, signed, fit}
use Rattle.number.proofs.Ranges.{rd}
use Rattle.amount.specs.Grammar.{precision, whole_fits, Value, valued, Amount}
use Rattle.amount.specs.Proper.{Proper}
use Rattle.amount.specs.Scan.{negative, sign_len, amount_len, amount_of}
use Rattle.amount.specs.Found.{cap, PartIs, PointAt}
use Rattle.amount.specs.Read.{value_of, ReadIs, amount_is}
use Rattle.amount.specs.declared.held.IntervalAmount.{IntervalAmount}
use Rattle.amount.specs.declared.parts.Number.{Number}
use Rattle.amount.proofs.AmountLaws.{one_value, measured, behind, whole_value, after_digits, after_point, unfit_len, whole_len, point_len_lem, whole_value_lem, point_value}

-- ---- the number of digits, and as far as the cap

cap_value : (w : List ℕ) (a : ℕ) → min (value (min a cap) w) cap ≡ min (value a w) cap
unfolding value
cap_value [] a = omega arith
cap_value (b ∷ w) a =
    let e : min (min a cap * 10 + worth b) cap ≡ min (a * 10 + worth b) cap = omega arith in
    sym (cap_value w (min a cap * 10 + worth b)) ∙ rw e (cap_value w (a * 10 + worth b))

-- the number v, and the digits from place i on
abbrev pub value_on : List ℕ → ℕ → ℕ → ℕ
value_on s i v = value v (take (run (drop i s)) (drop i s))

abbrev pub number_on : List ℕ → ℕ → ℕ → ℕ
number_on s i v = min (value_on s i v) cap

module _ (s : List ℕ) (i v : ℕ) where
  pub value_none : run (drop i s) ≡ 0 → value_on s i v ≡ v
  unfolding value
  value_none e = rw e

  pub number_end : length s ≤ i → number_on s i v ≡ min v cap
  number_end h = rw (value_none (run_end s i h))

  -- d is the digit at place i
  module _ {d : ℕ} (h : i < length s) (f : get_or s i 0 < 256) (e : d ≡ digit_of (get_or s i 0)) where
    pub number_off : 10 ≤ d → number_on s i v ≡ min v cap
    number_off g = rw (value_none (run_off s i d h f e g))

    pub value_more : d < 10 → value_on s i v ≡ value_on s (i + 1) (v * 10 + d)
    unfolding value
    value_more g =
        let l : take (run (drop i s)) (drop i s) ≡ get_or s i 0 ∷ take (run (drop (i + 1) s)) (drop (i + 1) s) = rw (run_on s i d h f e g, add-one, drop-cons s i 0 h) in
        rw (l, is_worth (get_or s i 0) d f e g)

    pub number_more : d < 10 → number_on s i v ≡ number_on s (i + 1) (min (v * 10 + d) cap)
    number_more g = rw (value_more g) (sym (cap_value (take (run (drop (i + 1) s)) (drop (i + 1) s)) (v * 10 + d)))

-- what is left of a text, as the code slices it
pub rest_is : (s : List ℕ) (i : ℕ) → take (length s - i) (drop i s) ≡ drop i s
rest_is s i = take_all (length s - i) (drop i s) (omega (arith, length-drop i s))

-- ---- a whole part with its sign

fits_size : (neg : Bool) (m : ℕ) → in_signed 63 (signed neg m) ≡ true → m ≤ 9_223_372_036_854_775_808
fits_size true zero e = omega arith
fits_size true (suc m) e = omega (arith, ltb-true m 9_223_372_036_854_775_808 e)
fits_size false m e = omega (arith, ltb-true m 9_223_372_036_854_775_808 e)

-- m is the number v, or the cap where it is more
module _ (neg : Bool) (v : ℕ) {m : ℕ} (e : m ≡ min v cap) where
  -- it fits, as z, which the machine reads back
  pub whole_fits_lem : {z : ℤ} → Some z ≡ fit 63 (signed neg m) → (rd w64 z ≡ signed neg v) × (whole_fits neg v ≡ true)
  unfolding whole_fits
  whole_fits_lem {z} h =
      by_test (in_signed 63 (signed neg m))
      (λ f.
      let q : Some z ≡ Some (signed neg m) = h ∙ rw f in
      let p : m ≡ v = omega (arith, fits_size neg m f) in
      let g : in_signed 63 (signed neg v) ≡ true = rw p at f in
      let r : z ≡ signed neg v = rw p at (some_is q) in
      let t : SFits w64 (signed neg v) = record { sfits = ltb-true (mag (signed neg v)) (2 ^ 63) g } in
      (rw (r, to_z-of_z t), g))
      (λ f. let q : Some z ≡ None = h ∙ rw f in cc)
    where
      some_is : {x y : ℤ} → Some x ≡ Some y → x ≡ y
      some_is r = cc

  -- or it does not
  pub whole_over : None ≡ fit 63 (signed neg m) → whole_fits neg v ≡ false
  unfolding whole_fits
  whole_over h =
      by_test (in_signed 63 (signed neg m))
      (λ f. let q : None ≡ Some (signed neg m) = h ∙ rw f in cc)
      (λ f. by_test (in_signed 63 (signed neg v))
      (λ g. let p : m ≡ v = omega (arith, fits_size neg v g) in both_ways (in_signed 63 (signed neg m)) f (rw p g))
      (λ g. g))

-- ---- a fraction

-- the digits from place p on as a fraction times 10^n
abbrev pub size_on : ℕ → List ℕ → ℕ → ℕ
size_on n s p = value_on s p 0 * 10 ^ (n - run (drop p s))

-- ---- the amount at a place: its sign ends at from

-- what is measured, k bytes, has the value v that is computed
read_as : (t : List ℕ) (k : ℕ) {v : Value} → 0 < k → k ≡ amount_len precision t → amount_of precision (take k t) ≡ v → Amount precision (take k t) v
read_as t k h K e = rw (← e, K) (measured precision t (omega arith))

-- a byte that is not 0 stands in the text
at_byte : (s : List ℕ) (i : ℕ) → 0 < get_or s i 0 → i + 1 ≤ length s
at_byte s i h =
    by_test (ltb i (length s))
    (λ e. omega (arith, ltb-true i (length s) e))
    (λ e. absurd (omega (arith, get_or-eq_default s 0 (ltb-false i (length s) e))))

-- b is the byte at place at, and a sign there ends at from
abbrev pub SignEnds : List ℕ → (at b from : ℕ) → Type 0
SignEnds s at b from = (eqb b 0x2D ≡ negative (drop at s)) × (from ≡ at + sign_len (eqb b 0x2D)) × (from ≤ length s)

module _ (s : List ℕ) (at : ℕ) {b : ℕ} (B : b ≡ get_or s at 0) where
  same_sign : eqb b 0x2D ≡ negative (drop at s)
  unfolding negative
  same_sign = rw (B, get_or-drop at s 0 0, add-zero)

  pub sign_minus : eqb b 0x2D ≡ true → {from : ℕ} → from ≡ at + 1 → SignEnds s at b from
  unfolding sign_len
  sign_minus e f = (same_sign, rw e f, rw f (at_byte s at (omega (arith, eqb-true b 0x2D e))))

  pub sign_none : at ≤ length s → eqb b 0x2D ≡ false → {from : ℕ} → from ≡ at → SignEnds s at b from
  unfolding sign_len
  sign_none l e f = (same_sign, rw e (omega arith), omega arith)

module _ (s : List ℕ) (at from : ℕ) (neg : Bool) (N : neg ≡ negative (drop at s)) (F : from ≡ at + sign_len neg) where
  abbrev wv : ℕ
  wv = value 0 (take (run (drop from s)) (drop from s))

  behind_is : behind (drop at s) ≡ drop from s
  behind_is = drop-drop (sign_len (negative (drop at s))) at s ∙ rw (F, N)

  -- the whole part does not fit
  pub unfit : whole_fits neg wv ≡ false → amount_len precision (drop at s) ≡ 0
  unfit h = unfit_len precision (drop at s) (rw (behind_is, ← N) h)

  module _ (fits : whole_fits neg wv ≡ true) (next : ℕ) (X : next ≡ from + run (drop from s)) where
    fits_here : whole_fits (negative (drop at s)) (whole_value (drop at s)) ≡ true
    fits_here = rw (behind_is, ← N) fits

    after_is : after_digits (drop at s) ≡ drop next s
    after_is = rw (behind_is, drop-drop (run (drop from s)) from s, X)

    head_is : get_or (after_digits (drop at s)) 0 0 ≡ get_or s next 0
    head_is = rw (after_is, get_or-drop next s 0 0, add-zero)

    -- no point follows

    module _ (no_point : get_or s next 0 ≡ 0x2E → ⊥) where
      bare_len : amount_len precision (drop at s) ≡ cond (ltb 0 (run (drop from s))) (sign_len neg + run (drop from s)) 0
      bare_len =
          whole_len precision (drop at s) fits_here (ne_eqb (get_or (after_digits (drop at s)) 0 0) 0x2E (λ e. no_point (sym head_is ∙ e))) ∙
          rw (behind_is, ← N)

      pub no_amount : next ≡ from → amount_len precision (drop at s) ≡ 0
      no_amount e = let z : run (drop from s) ≡ 0 = omega arith in bare_len ∙ rw z

      pub bare : (next ≡ from → ⊥) → next ≤ length s → {z : ℤ} → z ≡ signed neg wv → ReadIs precision s at (valued z (pos 0)) next
      bare e i Z =
          let l : amount_len precision (drop at s) ≡ sign_len neg + run (drop from s) = bare_len ∙ rw (lt-ltb 0 (run (drop from s)) (omega (arith, e))) in
          let k : next - at ≡ sign_len (negative (drop at s)) + run (behind (drop at s)) = rw (behind_is, ← N) (omega arith) in
          record {
            further = omega (arith, e);
            inside = i;
            end_is = omega arith;
            says = read_as (drop at s) (next - at) (omega (arith, e)) (omega arith) (rw (k, whole_value_lem precision (drop at s), behind_is, ← N, Z));
          }

    -- a point does
    pub point_at : get_or s next 0 ≡ 0x2E → {z : ℤ} → z ≡ signed neg wv → PointAt s at (next + 1) neg z
    point_at h {z} Z =
        let e : next + 1 - 1 ≡ next = omega arith in
        record {
          sign_is = N;
          place = rw (← F) (omega arith);
          inside = at_byte s next (omega arith);
          point = rw e h;
          integer_is = rw (← F) Z;
          fitting = rw (← F) fits;
        }

  -- and behind it the digits from place p on

  module _ (fits : whole_fits neg wv ≡ true) (p : ℕ) (X : p ≡ from + (run (drop from s) + 1)) (point : get_or s (p - 1) 0 ≡ 0x2E) where
    next_is : p - 1 ≡ from + run (drop from s)
    next_is = omega arith

    point_here : eqb (get_or (after_digits (drop at s)) 0 0) 0x2E ≡ true
    point_here = eq-eqb (get_or (after_digits (drop at s)) 0 0) 0x2E (head_is fits (p - 1) next_is ∙ point)

    after_point_is : after_point (drop at s) ≡ drop p s
    after_point_is = let e : p - 1 + 1 ≡ p = omega arith in rw (after_is fits (p - 1) next_is, drop-drop 1 (p - 1) s, e)

    pointed_len : amount_len precision (drop at s) ≡ cond (within 1 (run (drop p s)) precision) (sign_len neg + (run (drop from s) + suc (run (drop p s)))) 0
    pointed_len = point_len_lem precision (drop at s) (fits_here fits (p - 1) next_is) point_here ∙ rw (after_point_is, behind_is, ← N)

    -- none, or too many
    none_behind : run (drop p s) ≡ 0 → amount_len precision (drop at s) ≡ 0
    none_behind e = pointed_len ∙ rw (within_under 1 (run (drop p s)) precision (omega arith))

    long_behind : precision < run (drop p s) → amount_len precision (drop at s) ≡ 0
    long_behind e = pointed_len ∙ rw (within_over 1 (run (drop p s)) precision e)

    -- or 1 to 15
    pointed_behind : 0 < run (drop p s) → run (drop p s) ≤ precision → {e : ℕ} → e ≡ p + run (drop p s) → e ≤ length s → {z f : ℤ} → z ≡ signed neg wv → f ≡ signed neg (size_on precision s p) → ReadIs precision s at (valued z f) e
    pointed_behind g l {e} E i Z S =
        let r : amount_len precision (drop at s) ≡ sign_len neg + (run (drop from s) + suc (run (drop p s))) = pointed_len ∙ rw (within_yes 1 (run (drop p s)) precision g l) in
        let j : e - at ≡ sign_len (negative (drop at s)) + (run (behind (drop at s)) + suc (run (after_point (drop at s)))) = rw (after_point_is, behind_is, ← N) (omega arith) in
        record {
          further = omega arith;
          inside = i;
          end_is = omega arith;
          says = read_as (drop at s) (e - at) (omega arith) (omega arith) (rw (j, point_value precision (drop at s) point_here, after_point_is, behind_is, ← N, Z, S));
        }

-- the same of a text that is read up to a point
module _ {s : List ℕ} {at p : ℕ} {neg : Bool} {z : ℤ} (Q : PointAt s at p neg z) where
  place_is : p ≡ at + sign_len neg + (run (drop (at + sign_len neg) s) + 1)
  place_is = omega (arith, Q.place)

  no_fraction : run (drop p s) ≡ 0 → amount_len precision (drop at s) ≡ 0
  no_fraction = none_behind s at (at + sign_len neg) neg Q.sign_is refl Q.fitting p place_is Q.point

  pub empty : {r : Number} → PartIs precision (take (length s - p) (drop p s)) r → r.len ≡ 0 → amount_len precision (drop at s) ≡ 0
  empty P h = let R = rw (rest_is s p) at P in no_fraction (omega (arith, R.len_is))

  pub long_fraction : precision < run (take (length s - p) (drop p s)) → amount_len precision (drop at s) ≡ 0
  long_fraction h = long_behind s at (at + sign_len neg) neg Q.sign_is refl Q.fitting p place_is Q.point (rw (rest_is s p) at h)

  -- r is what is read behind it, of the text as the code slices it
  pub pointed : {r : Number} → PartIs precision (take (length s - p) (drop p s)) r → (r.len ≡ 0 → ⊥) → {f : ℤ} → f ≡ signed neg r.value → ReadIs precision s at (valued z f) (p + r.len)
  pointed {r} P h S =
      let R = rw (rest_is s p) at P in
      let e : size_on precision s p ≡ r.value = sym R.value_is in
      pointed_behind s at (at + sign_len neg) neg Q.sign_is refl Q.fitting p place_is Q.point (omega (arith, R.len_is, h)) R.most (omega (arith, R.len_is)) (omega (arith, R.inside, length-drop p s, Q.inside)) Q.integer_is (rw e S)

-- ---- the contract of `amount_at` leaves nothing free: two programs that meet it give the same answer for every text and place

-- amounts of one value are equal, since what an amount keeps of its numbers is a proof
proper_prop : {i f : ℤ} → IsProp (Proper i f)
proper_prop p q k = record { signs = Bool-set _ _ p.signs q.signs k; small = le_prop p.small q.small k }

one_amount : (a b : IntervalAmount) → value_of a ≡ value_of b → a ≡ b
one_amount a b e k = record {
  integer = (e k).integer;
  frac = (e k).frac;
  proper = is_prop→PathP (λ j. Proper (e j).integer (e j).frac) (λ j. proper_prop) a.proper b.proper k;
}

pub one_answer : (n : ℕ) (s : List ℕ) (at : ℕ) (r q : Result (IntervalAmount × ℕ) ℕ) → amount_is n s at r → amount_is n s at q → r ≡ q
unfolding amount_is
one_answer n s at (Ok r) (Ok q) R Q =
    let k : r.1 ≡ q.1 = R.end_is ∙ sym Q.end_is in
    let v : r.0 ≡ q.0 = one_amount r.0 q.0 (one_value R.says (rw (← k) at Q.says)) in
    λ i. Ok (v i, k i)
one_answer n s at (Ok r) (Err q) R Q = absurd (omega (arith, R.further, R.end_is))
one_answer n s at (Err p) (Ok q) R Q = absurd (omega (arith, Q.further, Q.end_is))
one_answer n s at (Err p) (Err q) R Q = ap Err (R.1 ∙ sym Q.1)
