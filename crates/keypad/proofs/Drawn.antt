-- Lists of components whose units are taken one after another: list number k of each count is such a list (`drawn`), each has a number
-- (`numbered`), and numbers go up as the order does (`order`). By the sizes of the parts that a number has, over the number of components and the
-- units not yet used. Assumes nothing.
use mathlib.Core.Path.{◌≡◌, refl, sym, ap, ◌∙◌}
use mathlib.Core.List.{List, [], ◌∷◌}
use Rattle.std.specs.Prelude.{remove}
use Prim.Native.Nat.{ℕ, zero, suc, ◌+◌, ◌-◌, ◌*◌, ◌/◌, ◌%◌, ◌≤◌, ◌<◌}
use native.Mathlib.Nat.{mod-lt, div-lt_iff_lt-mul, div-mul-le_self, lt-div-mul-add, mul-le-mul_right, mul_assoc, zero-mul, mul-zero}
use native.Mathlib.Omega.{arith}
use lib.ListN.{length}
use Rattle.std.proofs.lemmas.Nat.{div-mul-add, mod-mul-add, div-add-mod'}
use Rattle.std.proofs.Common.{◌⊎◌, inl, inr}
use Rattle.std.proofs.lemmas.Bool.{cases_order}
use Rattle.unit.specs.declared.IntervalUnit.{IntervalUnit}
use Rattle.keypad.specs.Texts.{Component, component, Without, nowhere, not_here, Once, no_component, one_more}
use Rattle.keypad.specs.Order.{Sooner, by_digit, by_unit, FromLeft, by_this, by_next}
use Rattle.keypad.specs.Answer.{ways, others, component_at, components}
use Rattle.keypad.proofs.Takes.{Takes, takes, taken, one_less, In, Taken, of, can_take, still, Rising, rising_still, later, Lacks, lacks, lacks_still}

-- ---- a number of a component, and of the others

-- a number below 10 times u times w: a digit, one of u, and one of w
pub record Parts (u w k : ℕ) : Type 0 where
  pub digit : k / w / u ≤ 9
  pub place : k / w % u < u
  pub rest : k % w < w

pub some : (a b : ℕ) (k : ℕ) → k < a * b → (0 < a) × (0 < b)
some zero b k h = absurd (omega (arith, zero-mul b))
some (suc a) zero k h = absurd (omega (arith, mul-zero (suc a)))
some (suc a) (suc b) k h = (omega arith, omega arith)

-- its part above w
quotient_below : (u w k : ℕ) → k < 10 * (u * w) → k / w < 10 * u
quotient_below u w k h =
    let l : k < (10 * u) * w = omega (arith, mul_assoc 10 u w) in
    (div-lt_iff_lt-mul (some (10 * u) w k l).1).1 l

pub parts : (u w k : ℕ) → k < 10 * (u * w) → Parts u w k
parts u w k h =
    let q = quotient_below u w k h in
    let v : 0 < u = omega (arith, q) in
    record {
      digit = let d : k / w / u < 10 = (div-lt_iff_lt-mul v).1 (omega (arith, q)) in omega (arith, d);
      place = mod-lt (k / w) v;
      rest = mod-lt k (some (10 * u) w k (omega (arith, mul_assoc 10 u w))).1;
    }

-- the number of such parts
made : (u w d i r : ℕ) → d ≤ 9 → i < u → r < w → (d * u + i) * w + r < 10 * (u * w)
made u w d i r h k l =
    let m : d * u ≤ 9 * u = mul-le-mul_right u h in
    let n : suc (d * u + i) * w ≤ (10 * u) * w = mul-le-mul_right w (omega (arith, m)) in
    omega (arith, n, mul_assoc 10 u w)

-- ---- lists of components

-- of c components, each with a digit and one of the units that those before it left
pub data Drawn : ℕ → List IntervalUnit → List Component → Type 0 where
  drawn_none : {l : List IntervalUnit} → Drawn zero l []
  drawn_one : {c d i : ℕ} {u : IntervalUnit} {l r : List IntervalUnit} {m : List Component} → d ≤ 9 → Takes l i u r → Drawn c r m
      → Drawn (suc c) l (component d u ∷ m)

pub as_many : {c : ℕ} {l : List IntervalUnit} {m : List Component} → Drawn c l m → length m ≡ c
as_many drawn_none = refl
as_many (drawn_one h t q) = omega (arith, as_many q)

-- the units behind the first
pub left_over : {l r : List IntervalUnit} {i : ℕ} {u : IntervalUnit} → Takes l i u r → length l - 1 ≡ length r
left_over t = omega (arith, (one_less t).0)

-- list number k is one
pub drawn : (c : ℕ) (l : List IntervalUnit) (k : ℕ) → k < ways c (length l) → Drawn c l (components c l k)
unfolding ways components component_at
drawn zero l k h = drawn_none
drawn (suc c) l k h =
    let w = others c l in
    let p = parts (length l) w k h in
    let t = takes l (k / w % length l) p.place in
    let e : length l - 1 ≡ length (remove l (k / w % length l)) = left_over t in
    let s : ways c (length l - 1) ≡ ways c (length (remove l (k / w % length l))) = ap (ways c) e in
    drawn_one p.digit t (drawn c (remove l (k / w % length l)) (k % w) (omega (arith, s, p.rest)))

-- and each has a number
pub data Found (c : ℕ) (l : List IntervalUnit) (m : List Component) : Type 0 where
  found : (k : ℕ) → k < ways c (length l) → components c l k ≡ m → Found c l m

pub numbered : {c : ℕ} {l : List IntervalUnit} {m : List Component} → Drawn c l m → Found c l m
unfolding ways components component_at
numbered drawn_none = found 0 (omega arith) refl
numbered (drawn_one {c} {d} {i} {u} {l} {r} {m} h t q) = one_before (numbered q)
  where
    one_before : Found c r m → Found (suc c) l (component d u ∷ m)
    one_before (found k b e) =
        let w = others c l in
        let s : length l - 1 ≡ length r = left_over t in
        let b' : k < w = rw (s) b in
        found ((d * length l + i) * w + k) (made (length l) w d i k h (one_less t).1 b')
        (rw (div-mul-add (d * length l + i) w k b', mod-mul-add (d * length l + i) w k b', div-mul-add d (length l) i (one_less t).1, mod-mul-add d (length l) i (one_less t).1, (taken t).0, (taken t).1, e) refl)

-- ---- the order

-- of two numbers over w the smaller has the smaller quotient, or the same and the smaller rest
data Compared (w i j : ℕ) : Type 0 where
  by_quotient : i / w < j / w → Compared w i j
  by_rest : i / w ≡ j / w → i % w < j % w → Compared w i j

not_greater : (w i j : ℕ) → 0 < w → i < j → j / w < i / w → ⊥
not_greater w i j h l q =
    let m : suc (j / w) * w ≤ i / w * w = mul-le-mul_right w q in
    omega (arith, m, div-mul-le_self i w, lt-div-mul-add {a = j} {b = w} h)

compare : (w i j : ℕ) → 0 < w → i < j → Compared w i j
compare w i j l h = by_order (cases_order (i / w) (j / w))
  where
    by_order : (i / w ≡ j / w) ⊎ ((i / w < j / w) ⊎ (j / w < i / w)) → Compared w i j
    by_order (inl e) = by_rest e (omega (arith, div-add-mod' i w, div-add-mod' j w, ap (λ (q : ℕ). q * w) e))
    by_order (inr (inl q)) = by_quotient q
    by_order (inr (inr q)) = absurd (not_greater w i j l h q)

-- the components of two places
sooner : (l : List IntervalUnit) (i j : ℕ) → Rising l → i < j → j < 10 * length l → Sooner (component_at l i) (component_at l j)
unfolding component_at
sooner l i j R h b = by_parts (compare (length l) i j (omega arith) h)
  where
    by_parts : Compared (length l) i j → Sooner (component_at l i) (component_at l j)
    by_parts (by_quotient q) = by_digit q
    by_parts (by_rest e q) =
        let s : 0 < length l = omega arith in
        by_unit e (later (takes l (i % length l) (mod-lt i s)) (takes l (j % length l) (mod-lt j s)) q R)

pub length_is : (c : ℕ) (l : List IntervalUnit) (k : ℕ) → length (components c l k) ≡ c
unfolding components
length_is zero l k = refl
length_is (suc c) l k = ap suc (length_is c (remove l (k / others c l % length l)) (k % others c l))

-- by the first components, or by the others where those are one
in_turn : (c : ℕ) (l : List IntervalUnit) (i j : ℕ) → Rising l → j < 10 * (length l * others c l) → Compared (others c l) i j
    → ((n : ℕ) → n < length l → i % others c l < j % others c l → j % others c l < others c l
    → FromLeft (components c (remove l n) (i % others c l)) (components c (remove l n) (j % others c l)))
    → FromLeft (components (suc c) l i) (components (suc c) l j)
unfolding components
in_turn c l i j R b (by_quotient q) f =
    let w = others c l in
    by_this (sooner l (i / w) (j / w) R q (quotient_below (length l) w j b))
    (length_is c (remove l (i / w % length l)) (i % w) ∙ sym (length_is c (remove l (j / w % length l)) (j % w)))
in_turn c l i j R b (by_rest e q) f =
    let p = parts (length l) (others c l) j b in
    rw (e) (by_next (f (j / others c l % length l) p.place q p.rest))

pub order : (c : ℕ) (l : List IntervalUnit) (i j : ℕ) → Rising l → i < j → j < ways c (length l) → FromLeft (components c l i) (components c l j)
unfolding ways components
order zero l i j R h b = absurd (omega arith)
order (suc c) l i j R h b =
    let w = others c l in
    let p = parts (length l) w j b in
    in_turn c l i j R b (compare w i j (omega (arith, p.rest)) h)
    (λ n s q r.
    let t = takes l n s in
    let m : ways c (length l - 1) ≡ ways c (length (remove l n)) = ap (ways c) (left_over t) in
    order c (remove l n) (i % w) (j % w) (rising_still t R) q (omega (arith, m)))

-- ---- no unit twice

without : {c : ℕ} {u : IntervalUnit} {r : List IntervalUnit} {m : List Component} → Drawn c r m → Lacks u r → Without u m
without drawn_none n = nowhere
without (drawn_one h t q) n = let e = lacks_still t n in not_here (λ p. absurd (e.0 p)) (without q e.1)

pub once : {c : ℕ} {l : List IntervalUnit} {m : List Component} → Drawn c l m → Rising l → Once m
once drawn_none R = no_component
once (drawn_one h t q) R = one_more (without q (lacks t R)) (once q (rising_still t R))

-- components with a digit each and a unit of a list
pub data Among (l : List IntervalUnit) : List Component → Type 0 where
  nothing : Among l []
  among : {d : ℕ} {u : IntervalUnit} {m : List Component} → d ≤ 9 → In u l → Among l m → Among l (component d u ∷ m)

still_among : {i : ℕ} {u : IntervalUnit} {l r : List IntervalUnit} {m : List Component} → Takes l i u r → Without u m → Among l m → Among r m
still_among t nowhere nothing = nothing
still_among t (not_here n w) (among h p a) = among h (still t p n) (still_among t w a)

-- are such a list, where no unit comes twice
pub draws : {l : List IntervalUnit} {m : List Component} → Among l m → Once m → Drawn (length m) l m
draws nothing no_component = drawn_none
draws (among h p a) (one_more w o) = one_before h (can_take p) (λ i r t. draws (still_among t w a) o)
  where
    one_before : {d : ℕ} {u : IntervalUnit} {l : List IntervalUnit} {m : List Component} → d ≤ 9 → Taken u l
        → ((i : ℕ) (r : List IntervalUnit) → Takes l i u r → Drawn (length m) r m) → Drawn (suc (length m)) l (component d u ∷ m)
    one_before h (of i r t) f = drawn_one h t (f i r t)
