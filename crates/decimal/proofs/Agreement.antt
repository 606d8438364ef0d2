-- The text of a number: the relation `NumberText` and the computation `signed_text` are one (`agrees`), and the reader reads it as the number
-- (`reads_back`). Assumes nothing.
use mathlib.Core.Path.{◌≡◌, refl, sym, ap, subst, ◌∙◌}
use mathlib.Core.Bool.{true}
use mathlib.Core.Logic.{◌↔◌}
use mathlib.Core.List.{List, [], ◌∷◌, ◌++◌}
use Rattle.std.specs.Prelude.{Some}
use Prim.Native.Nat.{ℕ, zero, suc, ◌+◌, ◌*◌, ◌-◌, ◌/◌, ◌%◌, ◌^◌, ◌≤◌, ◌<◌}
use native.Mathlib.Nat.{pow-le-pow_right, mul-le-mul_right}
use native.Mathlib.Omega.{arith}
use lib.Dec.{ltb}
use lib.ListN.{length}
use lib.IntN.{ℤ, pos, negsuc}
use borrow.Author.Tests.{ltb-true, ltb-false}
use Rattle.text.specs.Digits.{is_digit, worth, digits, value}
use Rattle.text.proofs.Bools.{by_test, within_yes, within_is}
use Rattle.text.proofs.DigitLists.{value_behind, digits_head}
use Rattle.text.proofs.Values.{ten_pos, value_below}
use Rattle.number.specs.Widths.{signed}
use Rattle.number.specs.Decimal.{Digits, one_or_more, Numeral, plain as plain_numeral, minus as minus_numeral, numeral}
use Rattle.number.proofs.Agreement.{all_digits, agrees as numeral_agrees}
use Rattle.decimal.specs.Decimal.{decimal, signed_text}
use Rattle.decimal.specs.NumberText.{NoZeroInFront, leading, NumberText, zero_digit, plain, minus}
use Rattle.decimal.proofs.Recursion.{each, one}

-- ---- the computation writes digits of the number, with no zero in front

-- one digit more
value_more : (d : List ℕ) (a c : ℕ) → value a (d ++ (c ∷ [])) ≡ value a d * 10 + worth c
unfolding value
value_more [] a c = refl
value_more (b ∷ d) a c = value_more d (a * 10 + worth b) c

digits_more : (d : List ℕ) (c : ℕ) → digits d ≡ true → is_digit c ≡ true → digits (d ++ (c ∷ [])) ≡ true
unfolding digits
digits_more [] c p q = rw q
digits_more (b ∷ d) c p q = let h = digits_head b d p in rw (h.0) (digits_more d c h.1 q)

digit_of_rest : (n : ℕ) → n < 10 → is_digit (48 + n) ≡ true
digit_of_rest n h = within_yes 0x30 (48 + n) 0x39 (omega arith) (omega arith)

pub record Writes (n : ℕ) (d : List ℕ) : Type 0 where
  pub valued : value 0 d ≡ n
  pub front : 0 < n → NoZeroInFront d
  pub all : digits d ≡ true

one_digit : (n : ℕ) → n < 10 → Writes n ((48 + n) ∷ [])
unfolding value digits
one_digit n h = record {
  valued = omega arith;
  front = λ g. leading (within_yes _ (48 + n) _ (omega arith) (omega arith)) refl;
  all = rw (digit_of_rest n h);
}

front_more : {d : List ℕ} (c : ℕ) → NoZeroInFront d → is_digit c ≡ true → NoZeroInFront (d ++ (c ∷ []))
front_more c (leading {b} {d} p q) r = leading p (digits_more d c q r)

digit_more : (n : ℕ) (d : List ℕ) → 10 ≤ n → Writes (n / 10) d → Writes n (d ++ ((48 + n % 10) ∷ []))
digit_more n d h w =
    let last : is_digit (48 + n % 10) ≡ true = digit_of_rest (n % 10) (omega arith) in
    record {
      valued = value_more d 0 (48 + n % 10) ∙ omega (arith, w.valued);
      front = λ g. front_more (48 + n % 10) (w.front (omega arith)) last;
      all = digits_more d (48 + n % 10) w.all last;
    }

pub writes : (n : ℕ) → Writes n (decimal n)
writes = each Writes one_digit digit_more

-- ---- there is one text of a number

-- the number of digits from that of the first and that of the others
value_first : (b : ℕ) (d : List ℕ) → value 0 (b ∷ d) ≡ worth b * 10 ^ length d + value 0 d
unfolding value
value_first b d = let z : 0 * 10 + worth b ≡ worth b = omega arith in rw (z) (value_behind d (worth b))

pub written_digits : {d : List ℕ} → NoZeroInFront d → Digits d
written_digits (leading {b} {d} p q) = let w = within_is _ b _ p in one_or_more (within_yes 0x30 b 0x39 (omega (arith, w.0)) w.1) q

all : {d : List ℕ} → NoZeroInFront d → digits d ≡ true
all p = all_digits (written_digits p)

at_least : {d : List ℕ} → NoZeroInFront d → 10 ^ (length d - 1) ≤ value 0 d
at_least (leading {b} {d} p q) =
    let w = within_is _ b _ p in
    let m : 1 * 10 ^ length d ≤ worth b * 10 ^ length d = mul-le-mul_right (10 ^ length d) (omega (arith, w.0)) in
    let k : length (b ∷ d) - 1 ≡ length d = omega arith in
    rw (k) (omega (arith, value_first b d, m))

-- with the larger quotient and rests below the divisor a number is larger
apart : (p x y u v : ℕ) → x < y → u < p → x * p + u ≡ y * p + v → ⊥
apart p x y u v h l e = let m : suc x * p ≤ y * p = mul-le-mul_right p h in omega (arith, m)

-- two numbers of which none is below the other
equal : (a b : ℕ) → (a < b → ⊥) → (b < a → ⊥) → a ≡ b
equal a b f g =
    by_test (ltb a b) (λ t. absurd (f (ltb-true a b t)))
    (λ t. by_test (ltb b a) (λ r. absurd (g (ltb-true b a r))) (λ r. omega (arith, ltb-false a b t, ltb-false b a r)))

same_digits : (d e : List ℕ) → digits d ≡ true → digits e ≡ true → length d ≡ length e → value 0 d ≡ value 0 e → d ≡ e
same_digits [] [] p q l h = refl
same_digits [] (c ∷ e) p q l h = absurd (omega arith)
same_digits (b ∷ d) [] p q l h = absurd (omega arith)
same_digits (b ∷ d) (c ∷ e) p q l h =
    let db = digits_head b d p in
    let dc = digits_head c e q in
    let k : length d ≡ length e = omega arith in
    let s : worth b * 10 ^ length d + value 0 d ≡ worth c * 10 ^ length d + value 0 e = sym (value_first b d) ∙ h ∙ rw (k) (value_first c e) in
    let u : value 0 d < 10 ^ length d = value_below d db.1 in
    let v : value 0 e < 10 ^ length d = rw (k) (value_below e dc.1) in
    let w : worth b ≡ worth c =
    equal (worth b) (worth c) (λ h. apart (10 ^ length d) (worth b) (worth c) (value 0 d) (value 0 e) h u s)
    (λ h. apart (10 ^ length d) (worth c) (worth b) (value 0 e) (value 0 d) h v (sym s)) in
    let x : value 0 d ≡ value 0 e = omega (arith, rw (w) at s) in
    let y : b ≡ c = omega (arith, w, (within_is 0x30 b 0x39 db.0).0, (within_is 0x30 c 0x39 dc.0).0) in
    rw (y) (ap (λ (r : List ℕ). c ∷ r) (same_digits d e db.1 dc.1 k x))

-- a longer text writes a larger number
shorter : (d e : List ℕ) → NoZeroInFront d → NoZeroInFront e → length d < length e → value 0 d ≡ value 0 e → ⊥
shorter d e p q l h =
    let m : 10 ^ length d ≤ 10 ^ (length e - 1) = pow-le-pow_right {n = 10} (omega arith) {i = length d} {j = length e - 1} (omega arith) in
    omega (arith, value_below d (all p), at_least q, m)

pub unique : (d e : List ℕ) → NoZeroInFront d → NoZeroInFront e → value 0 d ≡ value 0 e → d ≡ e
unique d e p q h = same_digits d e (all p) (all q) (equal (length d) (length e) (λ l. shorter d e p q l h) (λ l. shorter e d q p l (sym h))) h

-- ---- the relation and the computation

positive : {d : List ℕ} → NoZeroInFront d → 0 < value 0 d
positive {d} p = omega (arith, at_least p, ten_pos (length d - 1))

text_of : (n : ℕ) (d : List ℕ) → NoZeroInFront d → value 0 d ≡ n → decimal n ≡ d
text_of n d p e = unique (decimal n) d ((writes n).front (omega (arith, positive p))) p ((writes n).valued ∙ sym e)

negated : (n : ℕ) (d : List ℕ) → n ≡ value 0 d → NoZeroInFront d → signed_text (signed true n) ≡ 0x2D ∷ d
unfolding signed_text
negated zero d e p = absurd (omega (arith, positive p))
negated (suc n) d e p = ap (λ (r : List ℕ). 0x2D ∷ r) (text_of (suc n) d p (sym e))

computes : {z : ℤ} {t : List ℕ} → NumberText z t → t ≡ signed_text z
unfolding signed_text
computes zero_digit = sym (one 0 (omega arith))
computes (plain {d} p) = sym (text_of (value 0 d) d p refl)
computes (minus {d} p) = sym (negated (value 0 d) d refl p)

related : (z : ℤ) → NumberText z (signed_text z)
unfolding signed_text
related (pos zero) = rw (one 0 (omega arith)) zero_digit
related (pos (suc n)) = let w = writes (suc n) in subst (λ (k : ℕ). NumberText (pos k) (decimal (suc n))) w.valued (plain (w.front (omega arith)))
related (negsuc n) = let w = writes (suc n) in subst (λ (k : ℕ). NumberText (signed true k) (0x2D ∷ decimal (suc n))) w.valued (minus (w.front (omega arith)))

-- each number has one text
pub agrees : (z : ℤ) (t : List ℕ) → NumberText z t ↔ (t ≡ signed_text z)
agrees z t = (computes, λ e. rw (e) (related z))

-- ---- read back

-- the text is a numeral of the reader's grammar, which writes the number
pub numeral_of : {z : ℤ} {t : List ℕ} → NumberText z t → Numeral true t z
unfolding digits value
numeral_of zero_digit = plain_numeral (one_or_more refl refl)
numeral_of (plain p) = plain_numeral (written_digits p)
numeral_of (minus p) = minus_numeral refl (written_digits p)

-- so the reader reads the number back
pub reads_back : (z : ℤ) → numeral true (signed_text z) ≡ Some z
reads_back z = (numeral_agrees true (signed_text z) z).0 (numeral_of (related z))
