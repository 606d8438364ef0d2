-- The parts of an interval's text, put one behind another. Assumes nothing.
use mathlib.Core.Path.{◌≡◌, refl, ap, ◌∙◌}
use mathlib.Core.Bool.{true, false}
use mathlib.Core.List.{List, [], ◌∷◌, ◌++◌, append-nil}
use Prim.Native.Nat.{ℕ, ◌+◌, ◌-◌, ◌^◌, ◌<◌, min}
use Prim.Native.String.{String}
use native.Mathlib.Omega.{arith}
use lib.Dec.{eqb}
use lib.ListN.{length}
use lib.IntN.{ℤ, nat_abs}
use borrow.Author.Tests.{ne_eqb}
use mir.Syntax.{w32, w64}
use mir.Val.{SFits, to_z, of_z}
use mir.Facts.{to_z-of_z}
use Rattle.std.proofs.lemmas.List.{length-append}
use Rattle.text.proofs.Bools.{by_test}
use Rattle.utf8.specs.Quoted.{bytes}
use Rattle.buffer.specs.Buffer.{Put, end_of}
use Rattle.buffer.proofs.Puts.{then, no_bytes}
use Rattle.decimal.specs.Decimal.{signed_text}
use Rattle.rule.specs.Contribution.{counts}
use Rattle.interval_text.specs.Text.{part_before, parts, spaced, interval_text}
use Rattle.interval_text.specs.Found.{space_at, part_at}

-- parts that are put from a place on
behind : ℕ → List (List ℕ) → List ℕ
behind at [] = []
behind at (p ∷ l) = (space_at at ++ p) ++ behind (end_of at (space_at at ++ p)) l

-- a part before others, or none
one_more : (at : ℕ) (z : ℤ) (word : String) (l : List (List ℕ)) → at < 2 ^ 64
    → part_at at z (0x20 ∷ bytes word) ++ behind (end_of at (part_at at z (0x20 ∷ bytes word))) l ≡ behind at (part_before z word l)
unfolding part_before behind
one_more at z word l h =
    by_test (eqb (nat_abs z) 0) (λ t. let e : at ≡ min (at + 0) (2 ^ 64 - 1) = omega arith in rw (t, ← e) refl)
    (λ t. rw (t) refl)

-- what parts are when spaced behind others
unfoldable pub tail : List (List ℕ) → List ℕ
tail [] = []
tail (q ∷ l) = 0x20 ∷ spaced (q ∷ l)

pub spaced_first : (p : List ℕ) (l : List (List ℕ)) → p ++ tail l ≡ spaced (p ∷ l)
unfolding spaced tail
spaced_first p [] = append-nil p
spaced_first p (q ∷ l) = refl

-- no part is empty
data Some : List (List ℕ) → Type 0 where
  none_left : Some []
  some : {p : List ℕ} {l : List (List ℕ)} → 0 < length p → Some l → Some (p ∷ l)

later : (at : ℕ) {l : List (List ℕ)} → 0 < at → Some l → behind at l ≡ tail l
unfolding behind tail
later at h none_left = refl
later at h (some {p} {l} q r) =
    rw (ne_eqb at 0 (λ e. omega arith), later (end_of at (0x20 ∷ p)) (omega arith) r) (ap (λ (x : List ℕ). 0x20 ∷ x) (spaced_first p l))

first : {p : List ℕ} {l : List (List ℕ)} → Some (p ∷ l) → behind 0 (p ∷ l) ≡ spaced (p ∷ l)
unfolding behind
first (some {p} {l} q r) = rw (later (end_of 0 p) (omega arith) r) (spaced_first p l)

a_part : (z : ℤ) (word : String) {l : List (List ℕ)} → Some l → Some (part_before z word l)
unfolding part_before
a_part z word {l} s =
    by_test (eqb (nat_abs z) 0) (λ t. rw (t) s) (λ t. rw (t) (some {p = signed_text z ++ (0x20 ∷ bytes word)} (omega (arith, length-append (signed_text z) (0x20 ∷ bytes word))) s))

all_parts : (m d n : ℤ) → Some (parts (counts m d n))
unfolding parts
all_parts m d n = search (a_part, none_left)

-- ---- what the code puts

pub left_out : (z : ℤ) {at : ℕ} (word : List ℕ) {b : List ℕ} → eqb (nat_abs z) 0 ≡ true → at < 2 ^ 64 → length b < 2 ^ 64 → Put at (part_at at z word) b b at
left_out z {at} word {b} t h l = rw (t) (no_bytes at b h l)

-- y is z as a local holds it
pub put_in : (z : ℤ) {y : ℤ} {at p q r : ℕ} {s word a b c d : List ℕ} → y ≡ z → eqb (nat_abs z) 0 ≡ false → s ≡ space_at at → Put at s a b p → Put p (signed_text y) b c q
    → Put q word c d r → Put at (part_at at z word) a d r
put_in z {word = word} m t e x y v = rw (t, ← e, ← m) (then x (then y v))

-- the text, where there is a part
some_part : (l : List (List ℕ)) {r : ℕ} {a b : List ℕ} → Some l → (r ≡ 0 → ⊥) → Put 0 (behind 0 l) a b r → Put 0 (spaced l) a b r
unfolding behind
some_part [] s h p = absurd (h (omega (arith, p.end_is)))
some_part (p ∷ l) s h q = rw (first s) at q

-- and where there is none
no_part : (l : List (List ℕ)) {r s : ℕ} {a b c : List ℕ} → Some l → r ≡ 0 → Put 0 (behind 0 l) a b r → Put r (bytes "0 months") b c s → Put 0 (spaced l) a c s
unfolding behind spaced
no_part [] s h p q = then p q
no_part (p ∷ l) (some h s) e q t = absurd (omega (arith, q.end_is, length-append p (behind (end_of 0 p) l)))

-- a number of 32 bits, as it is read back from one of 64
pub widened : {x m : ℤ} → SFits w32 m → x ≡ to_z w32 (of_z w32 m) → to_z w64 (of_z w64 x) ≡ m
widened {x} {m} f e =
    let k : x ≡ m = e ∙ to_z-of_z f in
    let g : SFits w64 m = record { sfits = omega (arith, f.sfits) } in
    rw (k) (to_z-of_z g)

module _ {m d n x y z : ℤ} {p q r : ℕ} {a b c e : List ℕ} (one : Put 0 (part_at 0 x (bytes " months")) a b p)
    (two : Put p (part_at p y (bytes " days")) b c q) (three : Put q (part_at q z (bytes " nanoseconds")) c e r) (em : x ≡ m) (ed : y ≡ d) (en : z ≡ n) where
  together : Put 0 (behind 0 (parts (counts m d n))) a e r
  unfolding parts behind
  together =
      let f : Put 0 (part_at 0 m (bytes " months")) a b p = rw (em) at one in
      let g : Put p (part_at p d (bytes " days")) b c q = rw (ed) at two in
      let h : Put q (part_at q n (bytes " nanoseconds")) c e r = rw (en) at three in
      let i : part_at q n (bytes " nanoseconds") ++ [] ≡ behind q (part_before n "nanoseconds" []) =
      one_more q n "nanoseconds" [] (omega (arith, g.end_is)) in
      let j : part_at p d (bytes " days") ++ behind q (part_before n "nanoseconds" []) ≡ behind p (part_before d "days" (part_before n "nanoseconds" [])) =
      rw (g.end_is) (one_more p d "days" (part_before n "nanoseconds" []) (omega (arith, f.end_is))) in
      let k : part_at 0 m (bytes " months") ++ behind p (part_before d "days" (part_before n "nanoseconds" [])) ≡ behind 0 (parts (counts m d n)) =
      rw (f.end_is) (one_more 0 m "months" (part_before d "days" (part_before n "nanoseconds" [])) (omega arith)) in
      rw (← k, ← j, ← i) (then f (then g (rw (append-nil (part_at q n (bytes " nanoseconds"))) h)))

  pub not_zero : (r ≡ 0 → ⊥) → Put 0 (interval_text (counts m d n)) a e r
  unfolding interval_text
  not_zero h = some_part (parts (counts m d n)) (all_parts m d n) h together

  pub all_zero : {f : List ℕ} {s : ℕ} → r ≡ 0 → Put r (bytes "0 months") e f s → Put 0 (interval_text (counts m d n)) a f s
  unfolding interval_text
  all_zero h t = no_part (parts (counts m d n)) (all_parts m d n) h together t
