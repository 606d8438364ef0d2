-- The years of the calendar, by the cycle of 400 years. A year y is counted as n = y + 2147484000, which starts a whole number of
-- cycles before year 0 and makes every year of 32 bits a natural number. Assumes nothing.
use mathlib.Core.Path.{◌≡◌, refl, ap, ◌∙◌}
use Prim.Native.Nat.{ℕ, zero, suc, ◌+◌, ◌-◌, ◌*◌, ◌/◌, ◌%◌}
use native.Mathlib.Omega.{arith}
use native.Mathlib.Nat.{add-suc, add-zero, suc-add, zero-add, zero-mul}
use native.Mathlib.Numerals.{add-one}
use lib.Dec.{eqb, leb}
use lib.IntN.{ℤ, pos, negsuc, neg_ℤ, nat_abs, ◌+ℤ◌, ◌-ℤ◌}
use lib.Signed.{le_z}
use borrow.Author.Tests.{eq-eqb, ne_eqb, eqb-true, eqb-false, leb-true, leb-false}
use Rattle.number.proofs.Zed.{P, N, add_pn, sub-ℤ, P-neg, N-neg, le_yes, le_no, abs_up}
use Rattle.text.proofs.Bools.{by_test}
use Rattle.calendar.specs.Calendar.{leap, days_of, year_days, span, year_start}
use Rattle.calendar.specs.Cycle.{start}

-- n is the year y, counted from the start of a cycle
abbrev pub Counts : ℕ → ℤ → Type 0
Counts n y = n + N y ≡ P y + 2147484000

pub counts : (n : ℕ) (y : ℤ) → pos n ≡ y +ℤ pos 2147484000 → Counts n y
counts n y h = omega (arith, add_pn y (pos 2147484000), ap P h, ap N h)

-- ---- the leap rule goes by a year's place in the cycle

same_place : (a b : ℕ) → a % 400 ≡ b % 400 → leap (pos a) ≡ leap (pos b)
same_place a b h = simp (d4, d100, h)
  where
    d4 : a % 4 ≡ b % 4
    d4 = omega arith

    d100 : a % 100 ≡ b % 100
    d100 = omega arith

pub in_cycle : (n : ℕ) → leap (pos (n % 400)) ≡ leap (pos n)
in_cycle n = same_place (n % 400) n (omega arith)

-- two remainders that are zero together
same_test : (x y : ℕ) → (x ≡ 0 → y ≡ 0) → (y ≡ 0 → x ≡ 0) → eqb x 0 ≡ eqb y 0
same_test x y f g =
    by_test (eqb y 0)
    (λ e. rw e (eq-eqb x 0 (g (eqb-true y 0 e))))
    (λ e. rw e (ne_eqb x 0 (λ q. eqb-false y 0 e (f q))))

pub shift : (y : ℤ) (n : ℕ) → Counts n y → leap (pos n) ≡ leap y
shift (pos a) n h = same_place n a (omega arith)
shift (negsuc a) n h =
    simp (
      same_test (n % 4) (suc a % 4) (λ q. omega arith) (λ q. omega arith),
      same_test (n % 100) (suc a % 100) (λ q. omega arith) (λ q. omega arith),
      same_test (n % 400) (suc a % 400) (λ q. omega arith) (λ q. omega arith),
    )

-- ---- year starts, by cycles

one_more : (n : ℕ) → start (suc n) ≡ start n + year_days (pos n)
unfolding start
one_more n = refl

pub year_after : (n : ℕ) → start (n + 1) ≡ start n + year_days (pos n)
year_after n = rw add-one (one_more n)

whole : start 400 ≡ 146097
unfolding start
whole = refl

turn : (n : ℕ) → start (n + 400) ≡ start n + 146097
unfolding start
turn zero = whole
turn (suc n) =
    rw (suc-add n 400)
    (omega (arith, turn n, one_more (n + 400), one_more n, ap days_of (same_place (n + 400) n (omega arith))))

turns : (q r : ℕ) → start (q * 400 + r) ≡ q * 146097 + start r
turns zero r = rw (zero-mul 400, zero-mul 146097, zero-add r) (omega arith)
turns (suc q) r =
    let e : suc q * 400 + r ≡ q * 400 + r + 400 = omega arith in
    ap start e ∙ omega (arith, turn (q * 400 + r), turns q r)

pub by_cycle : (n : ℕ) → start n ≡ n / 400 * 146097 + start (n % 400)
by_cycle n =
    let e : n ≡ n / 400 * 400 + n % 400 = omega arith in
    ap start e ∙ turns (n / 400) (n % 400)

-- ---- the first day of a year: 1970 is counted as 2147485970, and 784353144398 days lie before it

spans : (y : ℤ) (n : ℕ) → Counts n y → (k : ℕ) → span y k + start n ≡ start (n + k)
unfolding span
spans y n h zero = rw (add-zero n) (omega arith)
spans y n h (suc k) =
    rw (add-suc n k)
    (omega (
      arith,
      spans y n h k,
      one_more (n + k),
      ap days_of (shift (y +ℤ pos k) (n + k) (omega (arith, add_pn y (pos k)))),
    ))

place_of_1970 : start 370 ≡ 135140
unfolding start
place_of_1970 = refl

pub epoch : start 2147485970 ≡ 784353144398
epoch = by_cycle 2147485970 ∙ rw place_of_1970

-- a year is k years after 1970, or some years before it
pub by_1970 {ℓ} :
    {A : Type ℓ} (y : ℤ) → ((k : ℕ) → P y ≡ N y + 1970 + k → A) → ((k : ℕ) → P y + suc k ≡ N y + 1970 → A) → A
by_1970 y f g =
    by_test (leb (N y + 1970) (P y))
    (λ e. f (P y - (N y + 1970)) (omega (arith, leb-true (N y + 1970) (P y) e)))
    (λ e. g (N y + 1970 - suc (P y)) (omega (arith, leb-false (N y + 1970) (P y) e)))

pub later : (y : ℤ) (k : ℕ) → P y ≡ N y + 1970 + k → year_start y ≡ pos (span (pos 1970) k)
later y k h =
    by_test (le_z (pos 1970) y) (λ e. rw (e, years)) (λ e. absurd (omega (arith, le_no (pos 1970) y e)))
  where
    years : nat_abs (y -ℤ pos 1970) ≡ k
    years = omega (arith, sub-ℤ y (pos 1970), abs_up (y -ℤ pos 1970) (omega (arith, sub-ℤ y (pos 1970))))

pub sooner : (y : ℤ) (k : ℕ) → P y + k ≡ N y + 1970 → year_start y ≡ neg_ℤ (pos (span y k))
unfolding span
sooner y zero h = later y 0 (omega arith)
sooner y (suc k) h =
    by_test (le_z (pos 1970) y) (λ e. absurd (omega (arith, le_yes (pos 1970) y e))) (λ e. rw (e, years))
  where
    years : nat_abs (pos 1970 -ℤ y) ≡ suc k
    years = omega (arith, sub-ℤ (pos 1970) y, abs_up (pos 1970 -ℤ y) (omega (arith, sub-ℤ (pos 1970) y)))

pub first_day : (y : ℤ) (n : ℕ) → Counts n y → P (year_start y) + start 2147485970 ≡ N (year_start y) + start n
first_day y n h = by_1970 y after before
  where
    after : (k : ℕ) → P y ≡ N y + 1970 + k → P (year_start y) + start 2147485970 ≡ N (year_start y) + start n
    after k e =
        let q : 2147485970 + k ≡ n = omega arith in
        rw (later y k e) (omega (arith, spans (pos 1970) 2147485970 refl k, ap start q))

    before : (k : ℕ) → P y + suc k ≡ N y + 1970 → P (year_start y) + start 2147485970 ≡ N (year_start y) + start n
    before k e =
        let q : n + suc k ≡ 2147485970 = omega arith in
        let z : ℤ = pos (span y (suc k)) in
        rw (sooner y (suc k) e) (omega (arith, spans y n h (suc k), ap start q, P-neg z, N-neg z))
