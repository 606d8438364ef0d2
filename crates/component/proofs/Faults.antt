-- Amount pieces, and where a component cannot be read. An amount is measured to its piece's end, or the piece is none. Assumes nothing.
use mathlib.Core.Path.{◌≡◌, refl, ◌∙◌}
use mathlib.Core.Bool.{Bool, true, false, ◌||◌}
use mathlib.Core.Logic.{⊎_elim}
use mathlib.Core.List.{List, [], ◌∷◌, ◌++◌}
use Prim.Native.Nat.{ℕ, suc, ◌+◌, ◌≤◌, ◌<◌}
use native.Mathlib.Omega.{arith}
use lib.Dec.{eqb, ltb}
use lib.ListN.{length, get_or, take, drop, take-append-drop}
use lib.Seq.{length-take-le}
use borrow.Author.Tests.{eqb-true, eq-eqb, ltb-true, lt-ltb}
use Rattle.text.specs.Digits.{is_digit, digits}
use Rattle.text.proofs.Bools.{and_left, and_right, or_cases, both_ways, by_test, fails, within_is}
use Rattle.white.specs.WhiteSpace.{white_len}
use Rattle.number.proofs.Agreement.{all_digits}
use Rattle.amount.specs.Grammar.{Sign, no_sign, minus, Value, Amount, whole, decimal, fraction}
use Rattle.amount.specs.Scan.{amount_len, amount_of}
use Rattle.amount.proofs.AmountLaws.{Breaks, amount_run, amount_inside, amount_agrees, measured}
use Rattle.component.specs.Fault.{in_amount, all_in_amount, piece_len, is_amount, fault}

-- ---- bytes of a piece

digit_in : (b : ℕ) → is_digit b ≡ true → in_amount b ≡ true
unfolding in_amount
digit_in b e = rw e

-- what none of them is
pub is_out : (b : ℕ) → in_amount b ≡ false → (is_digit b ≡ false) × (eqb b 0x2E ≡ false) × (eqb b 0x2D ≡ false)
unfolding in_amount
is_out b e = from (is_digit b) (eqb b 0x2E) (eqb b 0x2D) e
  where
    from : (x y z : Bool) → x || (y || z) ≡ false → (x ≡ false) × (y ≡ false) × (z ≡ false)
    from true y z e = both_ways true e refl
    from false true z e = both_ways true e refl
    from false false z e = (refl, refl, e)

-- they are ASCII, past the space and up to 9
pub in_range_lem : (b : ℕ) → in_amount b ≡ true → (0x2C < b) × (b < 0x3A)
unfolding in_amount
in_range_lem b e =
    ⊎_elim
    (λ p. omega (arith, within_is 0x30 b 0x39 p))
    (λ p. ⊎_elim (λ q. omega (arith, eqb-true b 0x2E q)) (λ q. omega (arith, eqb-true b 0x2D q)) (or_cases (eqb b 0x2E) (eqb b 0x2D) p))
    (or_cases (is_digit b) (eqb b 0x2E || eqb b 0x2D) e)

-- past the end of a text there is none
past_out : in_amount 0 ≡ false
unfolding in_amount
past_out = refl

-- ---- how long a piece is

pub piece_on : (b : ℕ) (t : List ℕ) → in_amount b ≡ true → piece_len (b ∷ t) ≡ suc (piece_len t)
unfolding piece_len
piece_on b t e = rw e

-- it ends where the first byte is none of its own
pub piece_none : (t : List ℕ) → in_amount (get_or t 0 0) ≡ false → piece_len t ≡ 0
unfolding piece_len
piece_none [] e = refl
piece_none (b ∷ t) e = rw e

pub piece_inside : (t : List ℕ) → piece_len t ≤ length t
unfolding piece_len
piece_inside [] = omega arith
piece_inside (b ∷ t) = by_test (in_amount b) (λ e. rw e (omega (arith, piece_inside t))) (λ e. rw e (omega arith))

pub piece_ends : (t : List ℕ) → in_amount (get_or (drop (piece_len t) t) 0 0) ≡ false
unfolding piece_len
piece_ends [] = past_out
piece_ends (b ∷ t) = by_test (in_amount b) (λ e. rw (piece_on b t e) (piece_ends t)) (λ e. rw (piece_none (b ∷ t) e) e)

pub piece_breaks : (t : List ℕ) → Breaks (drop (piece_len t) t)
unfolding Breaks
piece_breaks t = is_out (get_or (drop (piece_len t) t) 0 0) (piece_ends t)

-- bytes of an amount are of the piece that they begin
pub in_piece : (a x : List ℕ) → all_in_amount a ≡ true → piece_len (a ++ x) ≡ length a + piece_len x
unfolding all_in_amount
in_piece [] x A = omega arith
in_piece (b ∷ a) x A =
    piece_on b (a ++ x) (and_left (in_amount b) (all_in_amount a) A) ∙ omega (arith, in_piece a x (and_right (in_amount b) (all_in_amount a) A))

-- ---- an amount is of them

all_append : (a b : List ℕ) → all_in_amount a ≡ true → all_in_amount b ≡ true → all_in_amount (a ++ b) ≡ true
unfolding all_in_amount
all_append [] b A B = B
all_append (x ∷ a) b A B = rw (and_left (in_amount x) (all_in_amount a) A) (all_append a b (and_right (in_amount x) (all_in_amount a) A) B)

all_sign : {s : List ℕ} {neg : Bool} → Sign s neg → all_in_amount s ≡ true
unfolding all_in_amount in_amount
all_sign no_sign = refl
all_sign minus = refl

all_digits_in : (d : List ℕ) → digits d ≡ true → all_in_amount d ≡ true
unfolding all_in_amount digits
all_digits_in [] D = refl
all_digits_in (b ∷ d) D = rw (digit_in b (and_left (is_digit b) (digits d) D)) (all_digits_in d (and_right (is_digit b) (digits d) D))

all_point : (f : List ℕ) → digits f ≡ true → all_in_amount (0x2E ∷ f) ≡ true
unfolding all_in_amount in_amount
all_point f F = all_digits_in f F

all_amount : {n : ℕ} {a : List ℕ} {v : Value} → Amount n a v → all_in_amount a ≡ true
all_amount (whole {s} {d} S W) = all_append s d (all_sign S) (all_digits_in d (all_digits W.written))
all_amount (decimal {s} {d} {f} S W F) =
    all_append s (d ++ (0x2E ∷ f)) (all_sign S) (all_append d (0x2E ∷ f) (all_digits_in d (all_digits W.written)) (all_point f (all_digits F.written)))
all_amount (fraction {s} {f} S F) = all_append s (0x2E ∷ f) (all_sign S) (all_point f (all_digits F.written))

-- ---- the piece is an amount, or it is none

module _ (n : ℕ) (a : List ℕ) where
  pub amount_true : {v : Value} → Amount n a v → is_amount n a ≡ true
  unfolding is_amount
  amount_true {v} A = let e = (amount_agrees n a v).0 A in rw (lt-ltb 0 (length a) e.0, eq-eqb (amount_len n a) (length a) e.1)

  pub true_amount : is_amount n a ≡ true → Amount n a (amount_of n a)
  unfolding is_amount
  true_amount e =
      (amount_agrees n a (amount_of n a)).1 (
        ltb-true 0 (length a) (and_left (ltb 0 (length a)) (eqb (amount_len n a) (length a)) e),
        eqb-true (amount_len n a) (length a) (and_right (ltb 0 (length a)) (eqb (amount_len n a) (length a)) e),
        refl,
      )

module _ (n : ℕ) (t : List ℕ) where
  -- an amount piece is measured to its end
  pub piece_measured : is_amount n (take (piece_len t) t) ≡ true → (amount_len n t ≡ piece_len t) × (0 < piece_len t)
  piece_measured e =
      let A = true_amount n (take (piece_len t) t) e in
      let l = length-take-le (piece_len t) t (piece_inside t) in
      let m : amount_len n t ≡ piece_len t = rw (take-append-drop (piece_len t) t, l) at (amount_run A (drop (piece_len t) t) (piece_breaks t)) in
      (m, omega (arith, l, ((amount_agrees n (take (piece_len t) t) (amount_of n (take (piece_len t) t))).0 A).0))

  -- what is measured, and ends where the piece does, is the piece
  pub measured_piece : 0 < amount_len n t → in_amount (get_or (drop (amount_len n t) t) 0 0) ≡ false → piece_len t ≡ amount_len n t
  measured_piece h e =
      let l = length-take-le (amount_len n t) t (amount_inside n t) in
      let p : piece_len t ≡ length (take (amount_len n t) t) + piece_len (drop (amount_len n t) t) = rw (take-append-drop (amount_len n t) t) at (in_piece (take (amount_len n t) t) (drop (amount_len n t) t) (all_amount (measured n t h))) in
      omega (arith, p, l, piece_none (drop (amount_len n t) t) e)

  -- no amount is measured: the piece is none
  pub unmeasured : amount_len n t ≡ 0 → is_amount n (take (piece_len t) t) ≡ false
  unmeasured h = fails (is_amount n (take (piece_len t) t)) (λ e. piece_measured e) (λ m. omega (arith, m.0, m.1))

  -- one is measured, and the piece goes on behind it: it is none
  pub overmeasured : in_amount (get_or (drop (amount_len n t) t) 0 0) ≡ true → is_amount n (take (piece_len t) t) ≡ false
  overmeasured h =
      fails (is_amount n (take (piece_len t) t)) (λ e. piece_measured e)
      (λ m. both_ways (in_amount (get_or (drop (piece_len t) t) 0 0)) (piece_ends t) (rw m.0 at h))

  -- ---- the place where it cannot be read

  pub fault_first : is_amount n (take (piece_len t) t) ≡ false → fault n t ≡ 0
  unfolding fault
  fault_first e = rw e

  pub no_amount_fault : amount_len n t ≡ 0 → fault n t ≡ 0
  no_amount_fault h = fault_first (unmeasured h)

  pub fault_unit : 0 < amount_len n t → in_amount (get_or (drop (amount_len n t) t) 0 0) ≡ false → fault n t ≡ amount_len n t + white_len (drop (amount_len n t) t)
  unfolding fault
  fault_unit h e = let p = measured_piece h e in rw (p, amount_true n (take (amount_len n t) t) (measured n t h))
