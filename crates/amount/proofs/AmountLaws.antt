-- Amounts in a text: an amount is measured to its end, what is measured is an amount, and the value computed is the one of the grammar
-- (`amount_agrees`), the only one (`one_value`). Assumes nothing.
use mathlib.Core.Path.{◌≡◌, refl, sym, ap, ◌∙◌}
use mathlib.Core.Bool.{Bool, true, false, cond, false≢true}
use mathlib.Core.Logic.{◌⊎◌, inl, inr, ⊎_elim, ◌↔◌}
use mathlib.Core.List.{List, [], ◌∷◌, ◌++◌, append_assoc, append-nil}
use Prim.Native.Nat.{ℕ, zero, suc, ◌+◌, ◌-◌, ◌*◌, ◌^◌, ◌≤◌, ◌<◌}
use native.Mathlib.Nat.{mul-lt-mul_of_pos_right}
use native.Mathlib.Omega.{arith}
use lib.Dec.{eqb, ltb}
use lib.IntN.{ℤ, pos, negsuc, nat_abs}
use lib.Pow.{pow-add}
use lib.ListN.{length, get_or, take, drop, length-append, length-drop, take-append-drop}
use lib.Seq.{take-append_seam, drop-append_seam, take-append-add, length-take-le, take-length, drop-length, take-add}
use borrow.Author.Tests.{eqb-true, ne_eqb, ltb-true, lt-ltb}
use Rattle.text.specs.Digits.{within, is_digit, digits, value, run}
use Rattle.utf8.specs.Utf8.{Utf8}
use Rattle.text.proofs.Bools.{and_left, and_right, by_test, within_yes, within_is}
use Rattle.text.proofs.Runs.{run_all}
use Rattle.text.proofs.Values.{ten_pos, value_below}
use Rattle.number.specs.Decimal.{Digits, one_or_more}
use Rattle.number.specs.Widths.{signed}
use Rattle.number.proofs.Agreement.{all_digits, some_digits}
use Rattle.amount.specs.Grammar.{precision, Sign, no_sign, minus, whole_fits, Fraction, Value, valued, scaled, Amount, whole, decimal, fraction}
use Rattle.amount.specs.Scan.{negative, sign_len, point_len, digits_len, amount_len, frac_of, unsigned_of, amount_of}
use Rattle.amount.specs.Proper.{one_sign, Proper}
use Rattle.amount.specs.Read.{SameSign}
use Rattle.utf8.proofs.Ascii.{ascii_then}

-- ---- digits

one_of : (d : List ℕ) → digits d ≡ true → 0 < length d → Digits d
unfolding digits
one_of [] e h = absurd (omega arith)
one_of (b ∷ t) e h = one_or_more (and_left (is_digit b) (digits t) e) (and_right (is_digit b) (digits t) e)

-- digits run as far as they go
pub run_is : (t : List ℕ) → (digits (take (run t) t) ≡ true) × (run t ≤ length t)
unfolding run digits
run_is [] = (refl, omega arith)
run_is (b ∷ t) =
    by_test (is_digit b)
    (λ h. rw h (rw h (run_is t).0, omega (arith, (run_is t).1)))
    (λ h. rw h (refl, omega arith))

no_digits : digits [] ≡ true
unfolding digits
no_digits = refl

zero_fits : (neg : Bool) → whole_fits neg (value 0 []) ≡ true
unfolding whole_fits value
zero_fits true = refl
zero_fits false = refl

-- ---- a sign

-- what follows an amount: no digit, no point, no minus
unfoldable pub Breaks : List ℕ → Type 0
Breaks x = (is_digit (get_or x 0 0) ≡ false) × (eqb (get_or x 0 0) 0x2E ≡ false) × (eqb (get_or x 0 0) 0x2D ≡ false)

pub nothing_breaks : Breaks []
unfolding Breaks
nothing_breaks = (refl, refl, refl)

not_minus : (d x : List ℕ) → digits d ≡ true → eqb (get_or x 0 0) 0x2D ≡ false → negative (d ++ x) ≡ false
unfolding negative digits
not_minus [] x D e = e
not_minus (b ∷ d) x D e = ne_eqb b 0x2D (λ q. omega (arith, within_is 0x30 b 0x39 (and_left (is_digit b) (digits d) D)))

sign_length : {s : List ℕ} {neg : Bool} → Sign s neg → length s ≡ sign_len neg
unfolding sign_len
sign_length no_sign = refl
sign_length minus = refl

-- a sign before y, which begins with none
module _ {s : List ℕ} {neg : Bool} (S : Sign s neg) (y : List ℕ) (e : negative y ≡ false) where
  sign_len_lem : (n : ℕ) → amount_len n (s ++ y) ≡ digits_len n neg y
  unfolding amount_len sign_len negative
  sign_len_lem n = from S
    where
      from : {s : List ℕ} {neg : Bool} → Sign s neg → amount_len n (s ++ y) ≡ digits_len n neg y
      from no_sign = rw e
      from minus = refl

  sign_of : (n : ℕ) → amount_of n (s ++ y) ≡ unsigned_of n neg y
  unfolding amount_of sign_len negative
  sign_of n = from S
    where
      from : {s : List ℕ} {neg : Bool} → Sign s neg → amount_of n (s ++ y) ≡ unsigned_of n neg y
      from no_sign = rw e
      from minus = refl

pub sign_is : (t : List ℕ) → Sign (take (sign_len (negative t)) t) (negative t) × (sign_len (negative t) ≤ length t)
unfolding negative sign_len
sign_is [] = (no_sign, omega arith)
sign_is (b ∷ t) =
    by_test (eqb b 0x2D)
    (λ e. rw (e, eqb-true b 0x2D e) (minus, omega arith))
    (λ e. rw e (no_sign, omega arith))

-- ---- an amount is measured to its end

module _ (n : ℕ) {s : List ℕ} {neg : Bool} (S : Sign s neg) (d : List ℕ) (D : digits d ≡ true) (fit : whole_fits neg (value 0 d) ≡ true) (x : List ℕ) (br : Breaks x) where
  whole_run : 0 < length d → amount_len n ((s ++ d) ++ x) ≡ length (s ++ d)
  unfolding digits_len point_len Breaks
  whole_run p =
      rw (append_assoc s d x, sign_len_lem S (d ++ x) (not_minus d x D br.2) n, run_all d x D br.0, take-append_seam d x, drop-append_seam d x, fit, br.1, lt-ltb 0 (length d) p, length-append s d, sign_length S)

  point_run : (f : List ℕ) → Fraction n f → amount_len n ((s ++ (d ++ (0x2E ∷ f))) ++ x) ≡ length (s ++ (d ++ (0x2E ∷ f)))
  unfolding digits_len point_len Breaks
  point_run f F =
      rw (
        append_assoc s (d ++ (0x2E ∷ f)) x,
        append_assoc d (0x2E ∷ f) x,
        sign_len_lem S (d ++ (0x2E ∷ (f ++ x))) (not_minus d (0x2E ∷ (f ++ x)) D refl) n,
        run_all d (0x2E ∷ (f ++ x)) D refl,
        take-append_seam d (0x2E ∷ (f ++ x)),
        drop-append_seam d (0x2E ∷ (f ++ x)),
        fit,
        run_all f x (all_digits F.written) br.0,
        within_yes 1 (length f) n (some_digits F.written) F.most,
        length-append s (d ++ (0x2E ∷ f)),
        length-append d (0x2E ∷ f),
        sign_length S,
      )

pub amount_run : {n : ℕ} {a : List ℕ} {v : Value} → Amount n a v → (x : List ℕ) → Breaks x → amount_len n (a ++ x) ≡ length a
amount_run {n} (whole {d} S W) x br = whole_run n S d (all_digits W.written) W.fitting x br (some_digits W.written)
amount_run {n} (decimal {d} {f} S W F) x br = point_run n S d (all_digits W.written) W.fitting x br f F
amount_run {n} (fraction {f} {neg} S F) x br = point_run n S [] no_digits (zero_fits neg) x br f F

pub amount_some : {n : ℕ} {a : List ℕ} {v : Value} → Amount n a v → 0 < length a
amount_some (whole {s} {d} S W) = omega (arith, length-append s d, some_digits W.written)
amount_some (decimal {s} {d} {f} S W F) = omega (arith, length-append s (d ++ (0x2E ∷ f)), length-append d (0x2E ∷ f))
amount_some (fraction {s} {f} S F) = omega (arith, length-append s (0x2E ∷ f))

-- ---- what is measured is an amount

-- k bytes of a text are an amount, or k is 0
unfoldable pub Got : ℕ → List ℕ → ℕ → Type 0
Got n t k = (k ≡ 0) ⊎ ((v : Value) × Amount n (take k t) v × (k ≤ length t))

-- digits, if there are any, a point, and a fraction
pointed : {n : ℕ} {s : List ℕ} {neg : Bool} → Sign s neg → (d f : List ℕ) → digits d ≡ true → whole_fits neg (value 0 d) ≡ true → Fraction n f → (v : Value) × Amount n (s ++ (d ++ (0x2E ∷ f))) v
pointed S [] f D fit F = (_, fraction S F)
pointed S (b ∷ d) f D fit F = (_, decimal S (record { written = one_of (b ∷ d) D (omega arith); fitting = fit }) F)

module _ (n : ℕ) {s : List ℕ} {neg : Bool} (S : Sign s neg) (d : List ℕ) (D : digits d ≡ true) where
  whole_is : whole_fits neg (value 0 d) ≡ true → (y : List ℕ) → Got n (s ++ (d ++ y)) (cond (ltb 0 (length d)) (length s + length d) 0)
  unfolding Got
  whole_is fit y =
      by_test (ltb 0 (length d))
      (λ p. rw p (inr (
        valued (signed neg (value 0 d)) (pos 0),
        rw (take-append-add s (d ++ y) (length d), take-append_seam d y) (whole S (record { written = one_of d D (ltb-true 0 (length d) p); fitting = fit })),
        simp length-append (omega arith),
      )))
      (λ p. rw p (inl refl))

  point_is : whole_fits neg (value 0 d) ≡ true → (y : List ℕ) → Got n (s ++ (d ++ (0x2E ∷ y))) (cond (within 1 (run y) n) (length s + (length d + suc (run y))) 0)
  unfolding Got
  point_is fit y =
      by_test (within 1 (run y) n)
      (λ h.
      let r = run_is y in
      let w = within_is 1 (run y) n h in
      let l = length-take-le (run y) y r.1 in
      let q = pointed {n = n} S d (take (run y) y) D fit (record { written = one_of (take (run y) y) r.0 (omega arith); most = omega arith }) in
      rw h (inr (
        q.0,
        rw (take-append-add s (d ++ (0x2E ∷ y)) (length d + suc (run y)), take-append-add d (0x2E ∷ y) (suc (run y))) q.1,
        simp length-append (omega arith),
      )))
      (λ h. rw h (inl refl))

  tail_is : (b : Bool) → whole_fits neg (value 0 d) ≡ b → (y : List ℕ) → Got n (s ++ (d ++ y)) (point_len n (length s) (length d) b y)
  unfolding Got point_len
  tail_is false fit y = inl refl
  tail_is true fit [] = whole_is fit []
  tail_is true fit (b ∷ y) =
      by_test (eqb b 0x2E)
      (λ e. rw (e, eqb-true b 0x2E e) (point_is fit y))
      (λ e. rw e (whole_is fit (b ∷ y)))

digits_is : (n : ℕ) {s : List ℕ} {neg : Bool} → Sign s neg → (y : List ℕ) → Got n (s ++ y) (digits_len n neg y)
unfolding digits_len
digits_is n {s} {neg} S y =
    rw (take-append-drop (run y) y, length-take-le (run y) y (run_is y).1, sign_length S)
    at (tail_is n S (take (run y) y) (run_is y).0 (whole_fits neg (value 0 (take (run y) y))) refl (drop (run y) y))

pub amount_is : (n : ℕ) (t : List ℕ) → Got n t (amount_len n t)
unfolding amount_len
amount_is n t = rw (take-append-drop (sign_len (negative t)) t) at (digits_is n (sign_is t).0 (drop (sign_len (negative t)) t))

pub amount_inside : (n : ℕ) (t : List ℕ) → amount_len n t ≤ length t
unfolding Got
amount_inside n t = ⊎_elim (λ e. omega arith) (λ g. g.2) (amount_is n t)

-- no amount stands past the end
pub past_text : (n : ℕ) (s : List ℕ) (at : ℕ) → length s ≤ at → amount_len n (drop at s) ≡ 0
past_text n s at h = omega (arith, amount_inside n (drop at s), length-drop at s)

-- ---- what an amount says

signed_none : (neg : Bool) → signed neg 0 ≡ pos 0
signed_none true = refl
signed_none false = refl

module _ (n : ℕ) {s : List ℕ} {neg : Bool} (S : Sign s neg) where
  of_digits : (d : List ℕ) → digits d ≡ true → amount_of n (s ++ d) ≡ valued (signed neg (value 0 d)) (pos 0)
  unfolding unsigned_of frac_of
  of_digits d D =
      let k : run d ≡ length d = rw append-nil at (run_all d [] D refl) in
      let m : negative d ≡ false = rw append-nil at (not_minus d [] D refl) in
      rw (sign_of S d m n, k, take-length d, drop-length d, signed_none neg)

  of_point : (d f : List ℕ) → digits d ≡ true → amount_of n (s ++ (d ++ (0x2E ∷ f))) ≡ valued (signed neg (value 0 d)) (signed neg (scaled n f))
  unfolding unsigned_of frac_of
  of_point d f D =
      rw (sign_of S (d ++ (0x2E ∷ f)) (not_minus d (0x2E ∷ f) D refl) n, run_all d (0x2E ∷ f) D refl, take-append_seam d (0x2E ∷ f), drop-append_seam d (0x2E ∷ f))

  of_fraction : (f : List ℕ) → amount_of n (s ++ (0x2E ∷ f)) ≡ valued (pos 0) (signed neg (scaled n f))
  unfolding value
  of_fraction f = of_point [] f no_digits ∙ rw (signed_none neg)

-- the value of an amount is the one computed
pub amount_value : {n : ℕ} {a : List ℕ} {v : Value} → Amount n a v → amount_of n a ≡ v
amount_value {n} (whole {d} S W) = of_digits n S d (all_digits W.written)
amount_value {n} (decimal {d} {f} S W F) = of_point n S d f (all_digits W.written)
amount_value {n} (fraction {f} S F) = of_fraction n S f

-- an amount has one value
pub one_value : {n : ℕ} {a : List ℕ} {v w : Value} → Amount n a v → Amount n a w → v ≡ w
one_value A B = sym (amount_value A) ∙ amount_value B

-- what is measured has the value computed
pub measured : (n : ℕ) (t : List ℕ) → 0 < amount_len n t → Amount n (take (amount_len n t) t) (amount_of n (take (amount_len n t) t))
unfolding Got
measured n t h = ⊎_elim (λ e. absurd (omega arith)) (λ g. rw (amount_value g.1) g.1) (amount_is n t)

-- a text is an amount with a value exactly where the computation takes the whole of it and gives that value
pub amount_agrees : (n : ℕ) (a : List ℕ) (v : Value) → Amount n a v ↔ ((0 < length a) × (amount_len n a ≡ length a) × (amount_of n a ≡ v))
amount_agrees n a v = (
  λ A. (amount_some A, rw append-nil at (amount_run A [] nothing_breaks), amount_value A),
  λ e. rw (e.1, take-length a, e.2) at (measured n a (omega (arith, e.0, e.1))),
)

-- whole part and fraction never have opposite signs
pub same_sign : {n : ℕ} {a : List ℕ} {v : Value} → Amount n a v → SameSign v.integer v.frac
same_sign (whole {d} {neg} S W) = record { neg = neg; whole = value 0 d; part = 0; whole_is = refl; part_is = sym (signed_none neg) }
same_sign {n} (decimal {d} {f} {neg} S W F) = record { neg = neg; whole = value 0 d; part = scaled n f; whole_is = refl; part_is = refl }
same_sign {n} (fraction {f} {neg} S F) = record { neg = neg; whole = 0; part = scaled n f; whole_is = sym (signed_none neg); part_is = refl }

-- the same as a test
pub one_sign_lem : (i f : ℤ) → one_sign i f ≡ true → SameSign i f
one_sign_lem (pos i) (pos f) e = record { neg = false; whole = i; part = f; whole_is = refl; part_is = refl }
one_sign_lem (pos i) (negsuc f) e = record { neg = true; whole = 0; part = suc f; whole_is = ap pos (eqb-true i 0 e); part_is = refl }
one_sign_lem (negsuc i) (pos f) e = record { neg = true; whole = suc i; part = 0; whole_is = refl; part_is = ap pos (eqb-true f 0 e) }
one_sign_lem (negsuc i) (negsuc f) e = record { neg = true; whole = suc i; part = suc f; whole_is = refl; part_is = refl }

signed_one : (neg : Bool) (m k : ℕ) → one_sign (signed neg m) (signed neg k) ≡ true
signed_one false m k = refl
signed_one true zero zero = refl
signed_one true zero (suc k) = refl
signed_one true (suc m) zero = refl
signed_one true (suc m) (suc k) = refl

pub sign_one : {i f : ℤ} → SameSign i f → one_sign i f ≡ true
sign_one S = rw (S.whole_is, S.part_is) (signed_one S.neg S.whole S.part)

pub abs_signed : (neg : Bool) (m : ℕ) → nat_abs (signed neg m) ≡ m
abs_signed true zero = refl
abs_signed true (suc m) = refl
abs_signed false m = refl

-- a number below 10^k, at the scale of k digits, is below 10^n
pub shifted_below : (n k : ℕ) {v : ℕ} → k ≤ n → v < 10 ^ k → v * 10 ^ (n - k) < 10 ^ n
shifted_below n k h q =
    let e : k + (n - k) ≡ n = omega arith in
    let g : 10 ^ k * 10 ^ (n - k) ≡ 10 ^ n = sym (pow-add 10 k (n - k)) ∙ rw e in
    omega (arith, g, mul-lt-mul_of_pos_right q (ten_pos (n - k)))

-- a fraction is below 1
pub scaled_below : (n : ℕ) (f : List ℕ) → digits f ≡ true → length f ≤ n → scaled n f < 10 ^ n
unfolding scaled
scaled_below n f D h = shifted_below n (length f) h (value_below f D)

pub frac_small : {n : ℕ} {a : List ℕ} {v : Value} → Amount n a v → nat_abs v.frac < 10 ^ n
frac_small {n} (whole S W) = ten_pos n
frac_small {n} (decimal {f} {neg} S W F) = rw (abs_signed neg (scaled n f)) (scaled_below n f (all_digits F.written) F.most)
frac_small {n} (fraction {f} {neg} S F) = rw (abs_signed neg (scaled n f)) (scaled_below n f (all_digits F.written) F.most)

-- what is true of each amount that the code holds
pub proper : {a : List ℕ} {v : Value} → Amount precision a v → Proper v.integer v.frac
proper A = record { signs = sign_one (same_sign A); small = frac_small A }

-- ---- an amount at the front of a text, as it is read: what follows the sign, what follows the digits, what follows a point

abbrev pub behind : List ℕ → List ℕ
behind t = drop (sign_len (negative t)) t

abbrev pub whole_value : List ℕ → ℕ
whole_value t = value 0 (take (run (behind t)) (behind t))

abbrev pub after_digits : List ℕ → List ℕ
after_digits t = drop (run (behind t)) (behind t)

abbrev pub after_point : List ℕ → List ℕ
after_point t = drop 1 (after_digits t)

module _ (n : ℕ) (t : List ℕ) where
  split_sign : (k : ℕ) → take (sign_len (negative t) + k) t ≡ take (sign_len (negative t)) t ++ take k (behind t)
  split_sign k = take-add (sign_len (negative t)) k t

  -- its length

  pub unfit_len : whole_fits (negative t) (whole_value t) ≡ false → amount_len n t ≡ 0
  unfolding amount_len digits_len point_len
  unfit_len f = rw f

  pub whole_len : whole_fits (negative t) (whole_value t) ≡ true → eqb (get_or (after_digits t) 0 0) 0x2E ≡ false → amount_len n t ≡ cond (ltb 0 (run (behind t))) (sign_len (negative t) + run (behind t)) 0
  unfolding amount_len digits_len point_len
  whole_len f e = rw (f, e)

  pub point_len_lem : whole_fits (negative t) (whole_value t) ≡ true → eqb (get_or (after_digits t) 0 0) 0x2E ≡ true → amount_len n t ≡ cond (within 1 (run (after_point t)) n) (sign_len (negative t) + (run (behind t) + suc (run (after_point t)))) 0
  unfolding amount_len digits_len point_len
  point_len_lem f e = rw (f, e)

  -- what it says

  pub whole_value_lem : amount_of n (take (sign_len (negative t) + run (behind t)) t) ≡ valued (signed (negative t) (whole_value t)) (pos 0)
  whole_value_lem = rw (split_sign (run (behind t))) (of_digits n (sign_is t).0 (take (run (behind t)) (behind t)) (run_is (behind t)).0)

  pub point_value : eqb (get_or (after_digits t) 0 0) 0x2E ≡ true → amount_of n (take (sign_len (negative t) + (run (behind t) + suc (run (after_point t)))) t) ≡ valued (signed (negative t) (whole_value t)) (signed (negative t) (value 0 (take (run (after_point t)) (after_point t)) * 10 ^ (n - run (after_point t))))
  unfolding scaled
  point_value e = from (after_digits t) refl e
    where
      from : (z : List ℕ) → after_digits t ≡ z → eqb (get_or z 0 0) 0x2E ≡ true → amount_of n (take (sign_len (negative t) + (run (behind t) + suc (run (drop 1 z)))) t) ≡ valued (signed (negative t) (whole_value t)) (signed (negative t) (value 0 (take (run (drop 1 z)) (drop 1 z)) * 10 ^ (n - run (drop 1 z))))
      from [] q h = absurd (false≢true h)
      from (b ∷ z) q h =
          let l : take (run (behind t) + suc (run z)) (behind t) ≡ take (run (behind t)) (behind t) ++ (0x2E ∷ take (run z) z) = take-add (run (behind t)) (suc (run z)) (behind t) ∙ rw (q, eqb-true b 0x2E h) in
          rw (split_sign (run (behind t) + suc (run z)), l, of_point n (sign_is t).0 (take (run (behind t)) (behind t)) (take (run z) z) (run_is (behind t)).0, length-take-le (run z) z (run_is z).1)

-- ---- UTF-8

digits_utf8 : (d : List ℕ) {t : List ℕ} → digits d ≡ true → Utf8 t → Utf8 (d ++ t)
unfolding digits
digits_utf8 [] D u = u
digits_utf8 (b ∷ d) D u =
    ascii_then (omega (arith, within_is 0x30 b 0x39 (and_left (is_digit b) (digits d) D))) (digits_utf8 d (and_right (is_digit b) (digits d) D) u)

sign_utf8 : {s t : List ℕ} {neg : Bool} → Sign s neg → Utf8 t → Utf8 (s ++ t)
sign_utf8 no_sign u = u
sign_utf8 minus u = ascii_then (omega arith) u

point_utf8 : {n : ℕ} {f t : List ℕ} → Fraction n f → Utf8 t → Utf8 (0x2E ∷ (f ++ t))
point_utf8 {f = f} F u = ascii_then (omega arith) (digits_utf8 f (all_digits F.written) u)

pub amount_utf8 : {n : ℕ} {a t : List ℕ} {v : Value} → Amount n a v → Utf8 t → Utf8 (a ++ t)
amount_utf8 {t = t} (whole {s} {d} S W) u = rw (append_assoc s d t) (sign_utf8 S (digits_utf8 d (all_digits W.written) u))
amount_utf8 {t = t} (decimal {s} {d} {f} S W F) u =
    rw (append_assoc s (d ++ (0x2E ∷ f)) t, append_assoc d (0x2E ∷ f) t) (sign_utf8 S (digits_utf8 d (all_digits W.written) (point_utf8 F u)))
amount_utf8 {t = t} (fraction {s} {f} S F) u = rw (append_assoc s (0x2E ∷ f) t) (sign_utf8 S (point_utf8 F u))
