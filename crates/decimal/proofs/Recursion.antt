-- The digits of a number: those of one below ten, and of any other those of its tenth and one more. Assumes nothing.
use mathlib.Core.Path.{◌≡◌, sym, ap, ◌∙◌}
use mathlib.Core.Bool.{true, false, true≢false}
use mathlib.Core.List.{List, [], ◌∷◌, ◌++◌}
use Prim.Native.Nat.{ℕ, zero, suc, ◌+◌, ◌*◌, ◌/◌, ◌%◌, ◌^◌, ◌≤◌, ◌<◌}
use native.Mathlib.Omega.{arith}
use native.Mathlib.Nat.{pow-succ', pow-zero, mul-le-mul_right}
use lib.Dec.{ltb}
use lib.ListN.{length}
use lib.IntN.{ℤ, pos, negsuc, nat_abs}
use lib.Signed.{lt_z}
use borrow.Author.Tests.{lt-ltb, le-ltb, ltb-true, ltb-false}
use Rattle.std.proofs.lemmas.List.{length-append}
use Rattle.std.proofs.lemmas.Nat.{pow-add}
use Rattle.text.proofs.Bools.{by_test}
use Rattle.number.specs.Widths.{in_signed}
use Rattle.buffer.specs.Buffer.{Put}
use Rattle.buffer.proofs.Puts.{then}
use Rattle.decimal.specs.Decimal.{decimal_in, decimal, signed_text}

one_in : (k n : ℕ) → n < 10 → decimal_in (suc k) n ≡ (48 + n) ∷ []
unfolding decimal_in
one_in k n h = rw (lt-ltb n 10 h)

more_in : (k n : ℕ) → 10 ≤ n → decimal_in (suc k) n ≡ decimal_in k (n / 10) ++ ((48 + n % 10) ∷ [])
unfolding decimal_in
more_in k n h = rw (le-ltb n 10 h)

-- any count of digits that is large enough serves
pub enough : (f g n : ℕ) → 1 ≤ f → 1 ≤ g → n < 10 ^ f → n < 10 ^ g → decimal_in f n ≡ decimal_in g n
enough zero g n i j h k = absurd (omega arith)
enough (suc f) zero n i j h k = absurd (omega arith)
enough (suc f) (suc g) n i j h k =
    by_test (ltb n 10)
    (λ t. let l : n < 10 = ltb-true n 10 t in one_in f n l ∙ sym (one_in g n l))
    (λ t.
    let l : 10 ≤ n = ltb-false n 10 t in
    let a : 10 ^ suc f ≡ 10 * 10 ^ f = pow-succ' 10 f in
    let b : 10 ^ suc g ≡ 10 * 10 ^ g = pow-succ' 10 g in
    more_in f n l ∙ ap (λ (d : List ℕ). d ++ ((48 + n % 10) ∷ []))
    (enough f g (n / 10) (some f (omega arith)) (some g (omega arith)) (omega arith) (omega arith)) ∙ sym (more_in g n l))
  where
    some : (f : ℕ) → 1 < 10 ^ f → 1 ≤ f
    some zero h = absurd (omega (arith, pow-zero 10))
    some (suc f) h = omega arith

-- and that of the definition is
counted : (n : ℕ) → n < 10 ^ (20 + n / 10 ^ 20)
counted n =
    let p : 10 ^ (20 + n / 10 ^ 20) ≡ 10 ^ 20 * 10 ^ (n / 10 ^ 20) = pow-add 10 20 (n / 10 ^ 20) in
    let m : suc (n / 10 ^ 20) * 10 ^ 20 ≤ 10 ^ (n / 10 ^ 20) * 10 ^ 20 = mul-le-mul_right (10 ^ 20) (grows (n / 10 ^ 20)) in
    omega (arith, p, m)
  where
    grows : (k : ℕ) → suc k ≤ 10 ^ k
    grows zero = omega (arith, pow-zero 10)
    grows (suc k) = omega (arith, pow-succ' 10 k, grows k)

-- a number below 10^k, in at most k digits
pub in_digits : (k n : ℕ) → 1 ≤ k → n < 10 ^ k → decimal n ≡ decimal_in k n
unfolding decimal
in_digits k n h l = enough (20 + n / 10 ^ 20) k n (omega arith) h (counted n) l

-- the digit of a number below ten
pub one : (n : ℕ) → n < 10 → decimal n ≡ (48 + n) ∷ []
one n h = in_digits 1 n (omega arith) (omega (arith, pow-succ' 10 0, pow-zero 10)) ∙ one_in 0 n h

-- the digits of the tenth, and the last
pub more : (n : ℕ) → 10 ≤ n → decimal n ≡ decimal (n / 10) ++ ((48 + n % 10) ∷ [])
more n h =
    let k = 20 + n / 10 ^ 20 in
    in_digits (suc k) n (omega arith) (omega (arith, counted n, pow-succ' 10 k)) ∙ more_in k n h
    ∙ ap (λ (d : List ℕ). d ++ ((48 + n % 10) ∷ [])) (sym (in_digits k (n / 10) (omega arith) (omega (arith, counted n))))

-- what holds of each number and its digits: it does of one below ten, and of any other if it does of its tenth
pub each : (P : ℕ → List ℕ → Type 0) → ((n : ℕ) → n < 10 → P n ((48 + n) ∷ []))
    → ((n : ℕ) (d : List ℕ) → 10 ≤ n → P (n / 10) d → P n (d ++ ((48 + n % 10) ∷ []))) → (n : ℕ) → P n (decimal n)
each P p q n = below (suc n) n (omega arith)
  where
    below : (f n : ℕ) → n < f → P n (decimal n)
    below zero n h = absurd (omega arith)
    below (suc f) n h =
        by_test (ltb n 10)
        (λ t. let l : n < 10 = ltb-true n 10 t in rw (one n l) (p n l))
        (λ t. let l : 10 ≤ n = ltb-false n 10 t in rw (more n l) (q n (decimal (n / 10)) l (below f (n / 10) (omega arith))))

-- a number below 10^k has at most k digits
pub most : (n k : ℕ) → 1 ≤ k → n < 10 ^ k → length (decimal n) ≤ k
most = each (λ (n : ℕ) (d : List ℕ). (k : ℕ) → 1 ≤ k → n < 10 ^ k → length d ≤ k) (λ n h k l m. l) grown
  where
    grown : (n : ℕ) (d : List ℕ) → 10 ≤ n → ((k : ℕ) → 1 ≤ k → n / 10 < 10 ^ k → length d ≤ k) → (k : ℕ) → 1 ≤ k → n < 10 ^ k
        → length (d ++ ((48 + n % 10) ∷ [])) ≤ k
    grown n d h f zero l m = absurd (omega arith)
    grown n d h f (suc zero) l m = absurd (omega (arith, pow-succ' 10 0))
    grown n d h f (suc (suc k)) l m = omega (arith, length-append d ((48 + n % 10) ∷ []), f (suc k) (omega arith) (omega (arith, pow-succ' 10 (suc k))))

-- the size of a number of 64 signed bits has at most nineteen
pub nineteen : (n : ℕ) → n ≤ 2 ^ 63 → length (decimal n) ≤ 19
nineteen n h = most n 19 (omega arith) (omega arith)

-- a signed number of a size below 10^k has at most k digits, and a minus
pub signed_most : (z : ℤ) (k : ℕ) → 1 ≤ k → nat_abs z < 10 ^ k → length (signed_text z) ≤ suc k
unfolding signed_text
signed_most (pos n) k h l = omega (arith, most n k h l)
signed_most (negsuc n) k h l = omega (arith, most (suc n) k h l)

-- such as one of j + 1 signed bits, where 2^j is below 10^k
pub in_width : (j k : ℕ) (z : ℤ) → 1 ≤ k → 2 ^ j < 10 ^ k → in_signed j z ≡ true → length (signed_text z) ≤ suc k
in_width j k (pos n) h l e = signed_most (pos n) k h (omega (arith, ltb-true n (2 ^ j) e))
in_width j k (negsuc n) h l e = signed_most (negsuc n) k h (omega (arith, ltb-true n (2 ^ j) e))

-- ---- what the code writes

pub one_put : {n d at e : ℕ} {a b : List ℕ} → n < 10 → d ≡ 48 + n % 10 → Put at (d ∷ []) a b e → Put at (decimal n) a b e
one_put {n} {d} {at} {e} {a} {b} h q p = let r : 48 + n ≡ d = omega arith in rw (one n h, r) p

pub more_put : {n d at m e : ℕ} {a b c : List ℕ} → 10 ≤ n → d ≡ 48 + n % 10 → Put at (decimal (n / 10)) a b m → Put m (d ∷ []) b c e → Put at (decimal n) a c e
more_put {n} {d} h q p r = rw (more n h, ← q) (then p r)

-- r is z as a local holds it
pub plain_put : {r : ℤ} (z : ℤ) {n at e : ℕ} {a b : List ℕ} → r ≡ z → lt_z r (pos 0) ≡ false → n ≡ nat_abs r → Put at (decimal n) a b e → Put at (signed_text z) a b e
unfolding signed_text
plain_put (pos k) {n} s h q p = let m : n ≡ k = q ∙ ap nat_abs s in rw (m) at p
plain_put (negsuc k) s h q p = absurd (true≢false (rw (s) at h))

pub minus_put : {r : ℤ} (z : ℤ) {n at j e : ℕ} {a b c : List ℕ} → r ≡ z → lt_z r (pos 0) ≡ true → n ≡ nat_abs r → Put at (0x2D ∷ []) a b j → Put j (decimal n) b c e
    → Put at (signed_text z) a c e
unfolding signed_text
minus_put (pos k) s h q p t = absurd (omega (arith, ltb-true k 0 (rw (s) at h)))
minus_put (negsuc k) {n} s h q p t = let m : n ≡ suc k = q ∙ ap nat_abs s in then p (rw (m) at t)
