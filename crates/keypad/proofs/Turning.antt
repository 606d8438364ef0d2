-- The turns: an amount turn puts the first digit, and a unit turn what is behind it. Assumes nothing.
use mathlib.Core.Path.{◌≡◌, refl, sym, ap, ◌∙◌}
use mathlib.Core.List.{List, [], ◌∷◌, ◌++◌, append-nil}
use Rattle.std.specs.Prelude.{remove}
use Prim.Native.Nat.{ℕ, zero, suc, ◌+◌, ◌-◌, ◌*◌, ◌/◌, ◌%◌, ◌≤◌, ◌<◌}
use native.Mathlib.Nat.{mod-lt, div-lt_iff_lt-mul, mod-eq_of_lt, mul-le-mul_right, mul-div_cancel_left, mul_assoc}
use native.Mathlib.Omega.{arith}
use lib.ListN.{length, drop, get_or as slice_index_or}
use Rattle.std.proofs.lemmas.Nat.{div-mul-add, mod-mul-add, div-add-mod'}
use Rattle.buffer.specs.Buffer.{Put}
use Rattle.buffer.proofs.Puts.{then}
use Rattle.unit.specs.declared.IntervalUnit.{IntervalUnit}
use Rattle.unit.specs.declared.IntervalUnit.TheVariants.{Century}
use Rattle.keypad.specs.Texts.{word, Component, component}
use Rattle.keypad.specs.Answer.{ways, others, component_at, components, glue, join}
use Rattle.keypad.proofs.Takes.{takes}
use Rattle.keypad.proofs.Drawn.{some, parts, left_over}

-- ---- a text, its first digit and what is behind it

join_first : (d : ℕ) (u : IntervalUnit) (l : List Component) → join (component d u ∷ l) ≡ (0x30 + d) ∷ drop 1 (join (component d u ∷ l))
unfolding join glue
join_first d u [] = refl
join_first d u (e ∷ l) = refl

-- other components behind a space, if there are some
spaced_off : List Component → List ℕ
spaced_off [] = []
spaced_off (c ∷ l) = 0x20 ∷ join (c ∷ l)

word_first : (d : ℕ) (u : IntervalUnit) (l : List Component) → drop 1 (join (component d u ∷ l)) ≡ word u ++ spaced_off l
unfolding join glue spaced_off
word_first d u [] = sym (append-nil (word u))
word_first d u (c ∷ l) = refl

-- so it does not depend on the digit
other_digit : (d e : ℕ) (u : IntervalUnit) (l : List Component) → drop 1 (join (component d u ∷ l)) ≡ drop 1 (join (component e u ∷ l))
other_digit d e u l = word_first d u l ∙ sym (word_first e u l)

no_others : (c : ℕ) (r : List IntervalUnit) (k : ℕ) → c ≡ 0 → spaced_off (components c r k) ≡ []
unfolding components spaced_off
no_others zero r k e = refl
no_others (suc c) r k e = absurd (omega arith)

some_others : (c : ℕ) (r : List IntervalUnit) (k : ℕ) → 0 < c → spaced_off (components c r k) ≡ 0x20 ∷ join (components c r k)
unfolding components spaced_off
some_others zero r k h = absurd (omega arith)
some_others (suc c) r k h = refl

-- ---- a number's digit, and what it leaves

-- k is d times u times w, and a rest below it
record Split (u w k : ℕ) : Type 0 where
  digit_is : k / (u * w) ≡ k / w / u
  quotient_is : (k % (u * w)) / w ≡ k / w % u
  rest_is : k % (u * w) % w ≡ k % w

split : (u w k : ℕ) → 0 < u → 0 < w → Split u w k
split u w k h l =
    let q = k / w / u in
    let m = k / w % u in
    let r = k % w in
    let a : m < u = mod-lt (k / w) h in
    let b : r < w = mod-lt k l in
    let s : m * w + r < u * w = below m r a b in
    let e : k ≡ q * (u * w) + (m * w + r) = sym (div-add-mod' k w) ∙ ap (λ (x : ℕ). x * w + r) (sym (div-add-mod' (k / w) u)) ∙ regroup q m r in
    record {
      digit_is = ap (λ (x : ℕ). x / (u * w)) e ∙ div-mul-add q (u * w) (m * w + r) s;
      quotient_is = ap (λ (x : ℕ). x / w) (ap (λ (x : ℕ). x % (u * w)) e ∙ mod-mul-add q (u * w) (m * w + r) s) ∙ div-mul-add m w r b;
      rest_is = ap (λ (x : ℕ). x % w) (ap (λ (x : ℕ). x % (u * w)) e ∙ mod-mul-add q (u * w) (m * w + r) s) ∙ mod-mul-add m w r b;
    }
  where
    below : (m r : ℕ) → m < u → r < w → m * w + r < u * w
    below m r a b = let n : suc m * w ≤ u * w = mul-le-mul_right w a in omega (arith, n)

    regroup : (q m r : ℕ) → (q * u + m) * w + r ≡ q * (u * w) + (m * w + r)
    regroup q m r = omega (arith, mul_assoc q u w)

-- ---- the first of some components

module _ (left : ℕ) (l : List IntervalUnit) (h : 0 < left) where
  ways_are : ways left (length l) ≡ 10 * (length l * others (left - 1) l)
  unfolding ways
  ways_are = let e : left ≡ suc (left - 1) = omega arith in ap (λ (n : ℕ). ways n (length l)) e

  first_of : (k : ℕ) → components left l k
      ≡ component_at l (k / others (left - 1) l) ∷ components (left - 1) (remove l (k / others (left - 1) l % length l)) (k % others (left - 1) l)
  unfolding components
  first_of k = let e : left ≡ suc (left - 1) = omega arith in ap (λ (n : ℕ). components n l k) e

  -- a text is its digit, and what is behind the digit of the list whose number is left
  digit_first : (k : ℕ) → k < 10 * (length l * others (left - 1) l)
      → join (components left l k) ≡ (0x30 + k / (length l * others (left - 1) l)) ∷ drop 1 (join (components left l (k % (length l * others (left - 1) l))))
  unfolding component_at
  digit_first k b =
      let u = length l in
      let w = others (left - 1) l in
      let p = parts u w k b in
      let s = split u w k (omega (arith, p.place)) (omega (arith, p.rest)) in
      let m : k / w % u % u ≡ k / w % u = mod-eq_of_lt p.place in
      rw (first_of k, first_of (k % (u * w)), s.digit_is, s.quotient_is, s.rest_is, m)
      (join_first (k / w / u) (slice_index_or l (k / w % u) Century) (components (left - 1) (remove l (k / w % u)) (k % w))
      ∙ ap (λ (t : List ℕ). (0x30 + k / w / u) ∷ t)
      (other_digit (k / w / u) (k / w % u / u) (slice_index_or l (k / w % u) Century) (components (left - 1) (remove l (k / w % u)) (k % w))))

  -- and what is behind it is the word of the unit whose place is in the number, and the other components
  unit_first : (k : ℕ) → k < length l * others (left - 1) l
      → drop 1 (join (components left l k))
      ≡ word (slice_index_or l (k / others (left - 1) l) Century)
      ++ spaced_off (components (left - 1) (remove l (k / others (left - 1) l)) (k % others (left - 1) l))
  unfolding component_at
  unit_first k b =
      let u = length l in
      let w = others (left - 1) l in
      let s = some u w k b in
      let q : k / w < u = (div-lt_iff_lt-mul s.1).1 b in
      let m : k / w % u ≡ k / w = mod-eq_of_lt q in
      rw (first_of k, m) (word_first (k / w / u) (slice_index_or l (k / w) Century) (components (left - 1) (remove l (k / w)) (k % w)))

  -- ---- an amount turn

  module _ {n k : ℕ} (e : n ≡ ways left (length l)) (b : k < n) where
    pub tenth : n / 10 ≡ length l * others (left - 1) l
    tenth = rw (e, ways_are) (mul-div_cancel_left (length l * others (left - 1) l) (omega arith))

    pub some_of_each : 0 < n / 10
    some_of_each = let p = some 10 (length l * others (left - 1) l) k (omega (arith, ways_are)) in omega (arith, tenth, p.1)

    pub amount_put : {at m q : ℕ} {x y z : List ℕ} → Put at ((48 + k / (n / 10)) ∷ []) x y m
        → Put m (drop 1 (join (components left l (k % (n / 10))))) y z q → Put at (join (components left l k)) x z q
    amount_put p r = rw (digit_first k (omega (arith, ways_are)), ← tenth) (then p r)

  -- ---- a unit turn

  module _ {n k : ℕ} (e : n ≡ length l * others (left - 1) l) (b : k < n) where
    each_unit : n / length l ≡ others (left - 1) l
    each_unit = rw (e) (mul-div_cancel_left (others (left - 1) l) (some (length l) (others (left - 1) l) k (omega (arith, e))).0)

    pub some_for_each : 0 < n / length l
    some_for_each = let p = some (length l) (others (left - 1) l) k (omega (arith, e)) in omega (arith, each_unit, p.1)

    pub for_the_others : (r : List IntervalUnit) → r ≡ remove l (k / (n / length l)) → n / length l ≡ ways (left - 1) (length r)
    for_the_others r f =
        let s = some (length l) (others (left - 1) l) k (omega (arith, e)) in
        let q : k / (n / length l) < length l = rw (each_unit) ((div-lt_iff_lt-mul s.1).1 (omega (arith, e))) in
        let g : length l - 1 ≡ length r = rw (f) (left_over (takes l (k / (n / length l)) q)) in
        each_unit ∙ ap (ways (left - 1)) g

    pub last_put : {at q : ℕ} {x y : List ℕ} (v : IntervalUnit) → left ≡ 1 → v ≡ slice_index_or l (k / (n / length l)) Century → Put at (word v) x y q
        → Put at (drop 1 (join (components left l k))) x y q
    last_put v f g p =
        let w = others (left - 1) l in
        let u : v ≡ slice_index_or l (k / w) Century = rw (each_unit) at g in
        rw (unit_first k (omega (arith, e)), no_others (left - 1) (remove l (k / w)) (k % w) (omega (arith, f)), ← u, append-nil (word v)) p

    pub unit_put : {at m j q : ℕ} {x y z w : List ℕ} (v : IntervalUnit) (r : List IntervalUnit) → 0 < left - 1 → v ≡ slice_index_or l (k / (n / length l)) Century
        → r ≡ remove l (k / (n / length l)) → Put at (word v) x y m → Put m (0x20 ∷ []) y z j → Put j (join (components (left - 1) r (k % (n / length l)))) z w q
        → Put at (drop 1 (join (components left l k))) x w q
    unit_put {j = j} {q = q} {z = z} {w = y} v r s g f p o t =
        let w = others (left - 1) l in
        let u : v ≡ slice_index_or l (k / w) Century = rw (each_unit) at g in
        let d : r ≡ remove l (k / w) = rw (each_unit) at f in
        let a : Put j (join (components (left - 1) r (k % w))) z y q = rw (each_unit) at t in
        rw (unit_first k (omega (arith, e)), some_others (left - 1) (remove l (k / w)) (k % w) s, ← u, ← d) (then p (then o a))
