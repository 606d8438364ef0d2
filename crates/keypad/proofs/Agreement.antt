-- The number of a keypad text (document 02, No. 9). The text that is computed of a number has it and no other text does (`agrees`); each text of the set has
-- exactly one number (`has_one`); numbers go up as the order does (`in_order`); the first 120 are of one component, the next 13,200 of two, and
-- 1,320,000 of three (`components_are`). Assumes nothing.
use mathlib.Core.Path.{◌≡◌, refl, sym, ◌∙◌}
use mathlib.Core.Logic.{◌↔◌}
use mathlib.Core.List.{List}
use Prim.Native.Nat.{ℕ, zero, suc, ◌+◌, ◌-◌, ◌≤◌, ◌<◌}
use native.Mathlib.Omega.{arith}
use lib.Dec.{ltb}
use lib.ListN.{length}
use borrow.Author.Tests.{ltb-true, ltb-false, lt-ltb, le-ltb}
use Rattle.std.proofs.Common.{◌⊎◌, inl, inr}
use Rattle.std.proofs.lemmas.Bool.{cases_order}
use Rattle.text.proofs.Bools.{by_test}
use Rattle.unit.specs.Units.{units}
use Rattle.refusal.specs.Outcome.{Outcome, accepted, refused}
use Rattle.keypad.specs.Texts.{Component, Joined, KeypadText}
use Rattle.keypad.specs.Order.{Earlier, fewer, as_many, Before, before}
use Rattle.keypad.specs.Numbered.{Numbered, first, next, Answers, text, no_text, how_many}
use Rattle.keypad.specs.Answer.{ways, components, join, components_of, text_of, keypad_text}
use Rattle.keypad.proofs.Takes.{units_rising}
use Rattle.keypad.proofs.Drawn.{Drawn, drawn, as_many as drawn_as_many, Found, found, numbered, length_is, order, once, draws}
use Rattle.keypad.proofs.Joins.{joins, joined, some_components, all_among, one_list}
use Rattle.keypad.proofs.Ordered.{not_before}

-- ---- the three parts of the numbers

pub of_one : (k : ℕ) → k < 120 → components_of k ≡ components 1 units k
unfolding components_of
of_one k h = rw (lt-ltb k 120 h) refl

pub of_two : (k : ℕ) → 120 ≤ k → k < 13_320 → components_of k ≡ components 2 units (k - 120)
unfolding components_of
of_two k l h = rw (le-ltb k 120 l, lt-ltb k 13_320 h) refl

pub of_three : (k : ℕ) → 13_320 ≤ k → components_of k ≡ components 3 units (k - 13_320)
unfolding components_of
of_three k l = let m : 120 ≤ k = omega arith in rw (le-ltb k 120 m, le-ltb k 13_320 l) refl

-- where a number is
data Part (k : ℕ) : Type 0 where
  in_one : k < 120 → Part k
  in_two : 120 ≤ k → k < 13_320 → Part k
  in_three : 13_320 ≤ k → Part k

part : (k : ℕ) → Part k
part k =
    by_test (ltb k 120) (λ t. in_one (ltb-true k 120 t))
    (λ t. by_test (ltb k 13_320) (λ s. in_two (ltb-false k 120 t) (ltb-true k 13_320 s)) (λ s. in_three (ltb-false k 13_320 s)))

number_of_components : (k : ℕ) → length (components_of k) ≡ how_many k
unfolding how_many
number_of_components k = by_part (part k)
  where
    by_part : Part k → length (components_of k) ≡ how_many k
    by_part (in_one h) = rw (of_one k h, lt-ltb k 120 h) (length_is 1 units k)
    by_part (in_two l h) = rw (of_two k l h, le-ltb k 120 l, lt-ltb k 13_320 h) (length_is 2 units (k - 120))
    by_part (in_three l) = let m : 120 ≤ k = omega arith in rw (of_three k l, le-ltb k 120 m, le-ltb k 13_320 l) (length_is 3 units (k - 13_320))

-- ---- each number has a text of the set

data DrawnOf (k : ℕ) : Type 0 where
  of_units : (c : ℕ) → suc c ≤ 3 → Drawn (suc c) units (components_of k) → DrawnOf k

drawn_of : (k : ℕ) → k < 1_333_320 → DrawnOf k
unfolding ways
drawn_of k b = by_part (part k)
  where
    by_part : Part k → DrawnOf k
    by_part (in_one h) = of_units 0 (omega arith) (rw (of_one k h) (drawn 1 units k h))
    by_part (in_two l h) = of_units 1 (omega arith) (rw (of_two k l h) (drawn 2 units (k - 120) (omega arith)))
    by_part (in_three l) = of_units 2 (omega arith) (rw (of_three k l) (drawn 3 units (k - 13_320) (omega arith)))

pub text_joined : (k : ℕ) → k < 1_333_320 → Joined (text_of k) (components_of k)
unfolding text_of
text_joined k b = by_drawn (drawn_of k b)
  where
    by_drawn : DrawnOf k → Joined (join (components_of k)) (components_of k)
    by_drawn (of_units c h d) = joined d

pub in_set : (k : ℕ) → k < 1_333_320 → KeypadText (text_of k)
in_set k b = by_drawn (drawn_of k b)
  where
    by_drawn : DrawnOf k → KeypadText (text_of k)
    by_drawn (of_units c h d) =
        record { components = components_of k; joined = text_joined k b; few = omega (arith, drawn_as_many d); once = once d units_rising }

-- ---- and each text of the set a number

data Has (m : List Component) : Type 0 where
  has : (k : ℕ) → k < 1_333_320 → components_of k ≡ m → Has m

has_number : (m : List Component) (c : ℕ) → 0 < c → c ≤ 3 → Drawn c units m → Has m
unfolding ways
has_number m zero h l d = absurd (omega arith)
has_number m (suc zero) h l d = by_found (numbered d)
  where
    by_found : Found 1 units m → Has m
    by_found (found k b e) = has k (omega arith) (of_one k b ∙ e)
has_number m (suc (suc zero)) h l d = by_found (numbered d)
  where
    by_found : Found 2 units m → Has m
    by_found (found k b e) =
        let s : 120 + k - 120 ≡ k = omega arith in
        has (120 + k) (omega arith) (of_two (120 + k) (omega arith) (omega arith) ∙ rw (s) e)
has_number m (suc (suc (suc zero))) h l d = by_found (numbered d)
  where
    by_found : Found 3 units m → Has m
    by_found (found k b e) =
        let s : 13_320 + k - 13_320 ≡ k = omega arith in
        has (13_320 + k) (omega arith) (of_three (13_320 + k) (omega arith) ∙ rw (s) e)
has_number m (suc (suc (suc (suc c)))) h l d = absurd (omega arith)

pub data NumberOf (t : List ℕ) : Type 0 where
  number_of : (k : ℕ) → k < 1_333_320 → text_of k ≡ t → NumberOf t

pub numbers : {t : List ℕ} → KeypadText t → NumberOf t
unfolding text_of
numbers {t} T = by_has (has_number T.components (length T.components) (some_components T.joined) T.few (draws (all_among T.joined) T.once))
  where
    by_has : Has T.components → NumberOf t
    by_has (has k b e) = number_of k b (rw (e) (sym (joins T.joined)))

-- ---- numbers go up as the order does

earlier : (i j : ℕ) → i < j → j < 1_333_320 → Earlier (components_of i) (components_of j)
unfolding ways how_many
earlier i j h b = by_parts (part i) (part j)
  where
    shorter : how_many i < how_many j → Earlier (components_of i) (components_of j)
    shorter l = fewer (omega (arith, number_of_components i, number_of_components j))

    by_parts : Part i → Part j → Earlier (components_of i) (components_of j)
    by_parts (in_one a) (in_one c) = rw (of_one i a, of_one j c) (as_many (order 1 units i j units_rising h c))
    by_parts (in_one a) (in_two l c) = shorter (rw (lt-ltb i 120 a, le-ltb j 120 l, lt-ltb j 13_320 c) (omega arith))
    by_parts (in_one a) (in_three l) = let m : 120 ≤ j = omega arith in shorter (rw (lt-ltb i 120 a, le-ltb j 120 m, le-ltb j 13_320 l) (omega arith))
    by_parts (in_two k a) (in_one c) = absurd (omega arith)
    by_parts (in_two k a) (in_two l c) = rw (of_two i k a, of_two j l c) (as_many (order 2 units (i - 120) (j - 120) units_rising (omega arith) (omega arith)))
    by_parts (in_two k a) (in_three l) =
        let m : 120 ≤ j = omega arith in shorter (rw (le-ltb i 120 k, lt-ltb i 13_320 a, le-ltb j 120 m, le-ltb j 13_320 l) (omega arith))
    by_parts (in_three k) (in_one c) = absurd (omega arith)
    by_parts (in_three k) (in_two l c) = absurd (omega arith)
    by_parts (in_three k) (in_three l) = rw (of_three i k, of_three j l) (as_many (order 3 units (i - 13_320) (j - 13_320) units_rising (omega arith) (omega arith)))

pub goes_up : (i j : ℕ) → i < j → j < 1_333_320 → Before (text_of i) (text_of j)
goes_up i j h b = before (text_joined i (omega arith)) (text_joined j b) (earlier i j h b)

not_itself : {t : List ℕ} → Before t t → ⊥
not_itself B = not_before B B

-- and the order as the numbers
pub below : (i j : ℕ) → i < 1_333_320 → Before (text_of i) (text_of j) → i < j
below i j b B = by_order (cases_order i j)
  where
    by_order : (i ≡ j) ⊎ ((i < j) ⊎ (j < i)) → i < j
    by_order (inl e) = absurd (not_itself (rw (e) at B))
    by_order (inr (inl h)) = h
    by_order (inr (inr h)) = absurd (not_before B (goes_up j i h b))

-- no two numbers have one text
same_number : (i j : ℕ) {t : List ℕ} → (i < 1_333_320) × (text_of i ≡ t) → j < 1_333_320 → text_of j ≡ t → i ≡ j
same_number i j p b e = by_order (cases_order i j)
  where
    by_order : (i ≡ j) ⊎ ((i < j) ⊎ (j < i)) → i ≡ j
    by_order (inl q) = q
    by_order (inr (inl h)) = absurd (not_itself (rw (p.1, e) at (goes_up i j h b)))
    by_order (inr (inr h)) = absurd (not_itself (rw (p.1, e) at (goes_up j i h p.0)))

-- ---- THE NUMBER OF A TEXT

computed : {k : ℕ} {t : List ℕ} → Numbered k t → (k < 1_333_320) × (text_of k ≡ t)
computed (first {t} T n) = by_number (numbers T)
  where
    by_number : NumberOf t → (0 < 1_333_320) × (text_of 0 ≡ t)
    by_number (number_of zero b e) = (b, e)
    by_number (number_of (suc j) b e) = absurd (n (text_of 0) (in_set 0 (omega arith)) (rw (← e) (goes_up 0 (suc j) (omega arith) b)))
computed (next {k} {t} {s} N S B n) = by_number (computed N) (numbers S)
  where
    by_number : (k < 1_333_320) × (text_of k ≡ t) → NumberOf s → (suc k < 1_333_320) × (text_of (suc k) ≡ s)
    by_number p (number_of j b e) =
        let h : k < j = below k j p.0 (rw (p.1, e) B) in
        by_test (ltb (suc k) j)
        (λ q.
        let l : suc k < j = ltb-true (suc k) j q in
        absurd (n (text_of (suc k)) (in_set (suc k) (omega arith)) (rw (← p.1) (goes_up k (suc k) (omega arith) (omega arith))) (rw (← e) (goes_up (suc k) j l b))))
        (λ q. let m : suc k ≡ j = omega (arith, ltb-false (suc k) j q) in (omega arith, rw (m) e))

related : (k : ℕ) → k < 1_333_320 → Numbered k (text_of k)
related zero b = first (in_set 0 b) (λ s S B. by_number s B (numbers S))
  where
    by_number : (s : List ℕ) → Before s (text_of 0) → NumberOf s → ⊥
    by_number s B (number_of j c e) = let h : j < 0 = below j 0 c (rw (e) B) in omega arith
related (suc k) b = next (related k (omega arith)) (in_set (suc k) b) (goes_up k (suc k) (omega arith) b) (λ r R B C. by_number r B C (numbers R))
  where
    by_number : (r : List ℕ) → Before (text_of k) r → Before r (text_of (suc k)) → NumberOf r → ⊥
    by_number r B C (number_of j c e) =
        let h : k < j = below k j (omega arith) (rw (e) B) in
        let l : j < suc k = below j (suc k) c (rw (e) C) in
        omega arith

-- the text that has a number is the computed one
pub agrees : (k : ℕ) (t : List ℕ) → Numbered k t ↔ ((k < 1_333_320) × (text_of k ≡ t))
agrees k t = (computed, λ p. rw (← p.1) (related k p.0))

-- what is computed of a number: its text, or 17
pub with_text : (k : ℕ) → k < 1_333_320 → keypad_text k ≡ accepted (text_of k)
unfolding keypad_text
with_text k h = rw (lt-ltb k 1_333_320 h) refl

pub without_text : (k : ℕ) → 1_333_320 ≤ k → keypad_text k ≡ refused 17
unfolding keypad_text
without_text k h = rw (le-ltb k 1_333_320 h) refl

-- is what it answers
pub answers : (k : ℕ) (r : Outcome (List ℕ)) → Answers k r ↔ (keypad_text k ≡ r)
answers k r = (to_computed, λ e. rw (← e) answered)
  where
    to_computed : {r : Outcome (List ℕ)} → Answers k r → keypad_text k ≡ r
    to_computed (text N) = let p = computed N in rw (with_text k p.0, p.1) refl
    to_computed (no_text n) =
        by_test (ltb k 1_333_320) (λ t. absurd (n (text_of k) (related k (ltb-true k 1_333_320 t)))) (λ t. without_text k (ltb-false k 1_333_320 t))

    answered : Answers k (keypad_text k)
    answered =
        by_test (ltb k 1_333_320) (λ t. let h = ltb-true k 1_333_320 t in rw (with_text k h) (text (related k h)))
        (λ t. let h = ltb-false k 1_333_320 t in rw (without_text k h) (no_text (λ s N. omega (arith, (computed N).0))))

-- ---- document 02's claims

-- "each such text has exactly one number", which is below 1,333,320
pub record OneNumber (t : List ℕ) : Type 0 where
  pub number : ℕ
  pub below_all : number < 1_333_320
  pub has_it : Numbered number t
  pub no_other : (k : ℕ) → Numbered k t → k ≡ number

pub has_one : (t : List ℕ) → KeypadText t → OneNumber t
has_one t T = by_number (numbers T)
  where
    by_number : NumberOf t → OneNumber t
    by_number (number_of j b e) = record { number = j; below_all = b; has_it = rw (← e) (related j b); no_other = λ k N. same_number k j (computed N) b e }

-- and each number below it one text, of the set
pub record OneText (k : ℕ) : Type 0 where
  pub the_text : List ℕ
  pub of_the_set : KeypadText the_text
  pub has_it : Numbered k the_text
  pub no_other : (t : List ℕ) → Numbered k t → t ≡ the_text

pub has_text : (k : ℕ) → k < 1_333_320 → OneText k
has_text k b = record { the_text = text_of k; of_the_set = in_set k b; has_it = related k b; no_other = λ t N. sym (computed N).1 }

-- a text is before another exactly if its number is smaller
pub in_order : {i j : ℕ} {t s : List ℕ} → Numbered i t → Numbered j s → (i < j) ↔ Before t s
in_order {i} {j} N M =
    let p = computed N in
    let q = computed M in
    (λ h. rw (← p.1, ← q.1) (goes_up i j h q.0), λ B. below i j p.0 (rw (p.1, q.1) B))

-- "there are 120, 13,200 and 1,320,000" of one, two and three components: those are the first, the next and the last
pub components_are : {k : ℕ} {t : List ℕ} {l : List Component} → Numbered k t → Joined t l → length l ≡ how_many k
components_are {k} {l = l} N j =
    let p = computed N in
    let J : Joined (text_of k) l = rw (p.1) j in
    let e : l ≡ components_of k = one_list J (text_joined k p.0) in
    rw (e) (number_of_components k)
