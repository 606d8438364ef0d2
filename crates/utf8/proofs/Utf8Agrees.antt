-- A text is a sequence of encoded scalar values (`Utf8`) exactly where table 3-7 takes it (`utf8`). Assumes nothing.
use mathlib.Core.Path.{◌≡◌, refl, sym, ap, ◌∙◌, subst}
use mathlib.Core.Bool.{true, not, false≢true}
use mathlib.Core.Logic.{◌⊎◌, inl, inr, ⊎_elim, ◌↔◌}
use mathlib.Core.List.{List, [], ◌∷◌, ◌++◌}
use Prim.Native.Nat.{ℕ, zero, suc, ◌+◌, ◌-◌, ◌*◌, ◌/◌, ◌%◌, ◌≤◌, ◌<◌}
use native.Mathlib.Nat.{le_refl, le_of_suc-le-suc, not-suc-le-zero}
use native.Mathlib.Omega.{arith}
use lib.Dec.{leb, ltb}
use lib.ListN.{length}
use borrow.Author.Tests.{lt-ltb, le-ltb, ltb-true, ltb-false, le-leb, leb-true, leb-false}
use Rattle.text.specs.Digits.{within}
use Rattle.utf8.specs.declared.Follow.{Follow}
use Rattle.utf8.specs.Utf8.{scalar, encode, Utf8, nothing, scalar_then, table, following, follows, well_formed, utf8}
use Rattle.text.proofs.Bools.{and_left, and_right, by_test, both_ways, within_yes, within_under, within_over, within_is}
use Rattle.utf8.proofs.Utf8Rows.{row_00, row_80, row_c2, row_e0, row_e1, row_ed, row_ee, row_f0, row_f1, row_f4, row_f5}

-- ---- what a character's bytes leave to read

pub lead : (low high b : ℕ) (t : List ℕ) (n l h : ℕ) → follows table b ≡ following n l h → well_formed 0 low high (b ∷ t) ≡ well_formed n l h t
unfolding well_formed
lead low high b t n l h e = ap (λ (f : Follow). well_formed f.count f.low f.high t) e

more : (n l h b : ℕ) (t : List ℕ) → within l b h ≡ true → well_formed (suc n) l h (b ∷ t) ≡ well_formed n 0x80 0xBF t
unfolding well_formed
more n l h b t p = rw p

-- ---- each scalar value's bytes stand in the table

later : (n : ℕ) → within 0x80 (0x80 + n % 64) 0xBF ≡ true
later n = within_yes 0x80 (0x80 + n % 64) 0xBF (omega arith) (omega arith)

module _ (c : ℕ) (t : List ℕ) where
  read_2 : 0x80 ≤ c → c < 0x800 → utf8 (encode c ++ t) ≡ utf8 t
  read_2 p q =
      rw (le-ltb c 0x80 p, lt-ltb c 0x800 q)
      (lead 0x80 0xBF (0xC0 + c / 64) _ 1 0x80 0xBF (row_c2 (0xC0 + c / 64) (omega arith) (omega arith)) ∙ more 0 0x80 0xBF (0x80 + c % 64) t (later c))

  read_3 : (l h : ℕ) → 0x800 ≤ c → c < 0x10000 → follows table (0xE0 + c / 4096) ≡ following 2 l h → within l (0x80 + c / 64 % 64) h ≡ true → utf8 (encode c ++ t) ≡ utf8 t
  read_3 l h p q e w =
      rw (le-ltb c 0x80 (omega arith), le-ltb c 0x800 p, lt-ltb c 0x10000 q)
      (lead 0x80 0xBF (0xE0 + c / 4096) _ 2 l h e ∙ more 1 l h (0x80 + c / 64 % 64) _ w ∙ more 0 0x80 0xBF (0x80 + c % 64) t (later c))

  read_4 : (l h : ℕ) → 0x10000 ≤ c → follows table (0xF0 + c / 262144) ≡ following 3 l h → within l (0x80 + c / 4096 % 64) h ≡ true → utf8 (encode c ++ t) ≡ utf8 t
  read_4 l h p e w =
      rw (le-ltb c 0x80 (omega arith), le-ltb c 0x800 (omega arith), le-ltb c 0x10000 p)
      (
      lead 0x80 0xBF (0xF0 + c / 262144) _ 3 l h e ∙
      more 2 l h (0x80 + c / 4096 % 64) _ w ∙
      more 1 0x80 0xBF (0x80 + c / 64 % 64) _ (later (c / 64)) ∙
      more 0 0x80 0xBF (0x80 + c % 64) t (later c)
      )

-- a scalar value is at most 10FFFF, and below the surrogates or above them
is_scalar : (c : ℕ) → scalar c ≡ true → (c ≤ 0x10FFFF) × ((c < 0xD800) ⊎ (0xDFFF < c))
is_scalar c e = (
  leb-true c 0x10FFFF (and_left (leb c 0x10FFFF) (not (within 0xD800 c 0xDFFF)) e),
  by_test (leb 0xD800 c)
      (λ p. by_test (leb c 0xDFFF)
      (λ q. both_ways (not (within 0xD800 c 0xDFFF)) (rw (p, q)) (and_right (leb c 0x10FFFF) (not (within 0xD800 c 0xDFFF)) e))
      (λ q. inr (leb-false c 0xDFFF q)))
      (λ p. inl (leb-false 0xD800 c p)),
)

below : (c : ℕ) → c < 0xD800 → scalar c ≡ true
below c p = rw (le-leb c 0x10FFFF (omega arith), within_under 0xD800 c 0xDFFF p)

above : (c : ℕ) → 0xDFFF < c → c ≤ 0x10FFFF → scalar c ≡ true
above c p q = rw (le-leb c 0x10FFFF q, within_over 0xD800 c 0xDFFF p)

-- by cases of an order
split : {A : Type 0} (a b : ℕ) → (a < b → A) → (b ≤ a → A) → A
split a b f g = by_test (ltb a b) (λ e. f (ltb-true a b e)) (λ e. g (ltb-false a b e))

read : (c : ℕ) (t : List ℕ) → scalar c ≡ true → utf8 (encode c ++ t) ≡ utf8 t
read c t e =
    let s = is_scalar c e in
    split c 0x80
    (λ p. rw (lt-ltb c 0x80 p) (lead 0x80 0xBF c t 0 0x80 0xBF (row_00 c (omega arith))))
    (λ p. split c 0x800
    (read_2 c t p)
    (λ q. split c 0x1000
    (λ r. read_3 c t 0xA0 0xBF q (omega arith) (row_e0 (0xE0 + c / 4096) (omega arith) (omega arith)) (within_yes 0xA0 (0x80 + c / 64 % 64) 0xBF (omega arith) (omega arith)))
    (λ r. split c 0xD000
    (λ u. read_3 c t 0x80 0xBF q (omega arith) (row_e1 (0xE0 + c / 4096) (omega arith) (omega arith)) (later (c / 64)))
    (λ u. split c 0x10000
    (λ v. ⊎_elim
    (λ w. read_3 c t 0x80 0x9F q v (row_ed (0xE0 + c / 4096) (omega arith) (omega arith)) (within_yes 0x80 (0x80 + c / 64 % 64) 0x9F (omega arith) (omega arith)))
    (λ w. read_3 c t 0x80 0xBF q v (row_ee (0xE0 + c / 4096) (omega arith) (omega arith)) (later (c / 64)))
    s.1)
    (λ v. split c 0x40000
    (λ w. read_4 c t 0x90 0xBF v (row_f0 (0xF0 + c / 262144) (omega arith) (omega arith)) (within_yes 0x90 (0x80 + c / 4096 % 64) 0xBF (omega arith) (omega arith)))
    (λ w. split c 0x100000
    (λ x. read_4 c t 0x80 0xBF v (row_f1 (0xF0 + c / 262144) (omega arith) (omega arith)) (later (c / 4096)))
    (λ x. let y = s.0 in read_4 c t 0x80 0x8F v (row_f4 (0xF0 + c / 262144) (omega arith) (omega arith)) (within_yes 0x80 (0x80 + c / 4096 % 64) 0x8F (omega arith) (omega arith)))))))))

pub complete : {t : List ℕ} → Utf8 t → utf8 t ≡ true
unfolding well_formed
complete nothing = refl
complete (scalar_then c {t} e r) = read c t e ∙ complete r

-- ---- each row's bytes are a scalar value's

-- the next byte of a text that must go on with n + 1 more
record Next (n low high : ℕ) (t : List ℕ) : Type 0 where
  head : ℕ
  rest : List ℕ
  text : t ≡ head ∷ rest
  from : low ≤ head
  to : head ≤ high
  good : well_formed n 0x80 0xBF rest ≡ true

next : (n low high : ℕ) (t : List ℕ) → well_formed (suc n) low high t ≡ true → Next n low high t
unfolding well_formed
next n low high [] e = absurd (false≢true e)
next n low high (b ∷ t) e =
    let w = within_is low b high (and_left (within low b high) (well_formed n 0x80 0xBF t) e) in
    record { head = b; rest = t; text = refl; from = w.0; to = w.1; good = and_right (within low b high) (well_formed n 0x80 0xBF t) e }

code_2 : (b d : ℕ) → 0xC2 ≤ b → b ≤ 0xDF → 0x80 ≤ d → d ≤ 0xBF → encode ((b - 0xC0) * 64 + (d - 0x80)) ≡ b ∷ d ∷ []
code_2 b d p q r s =
    let n : ℕ = (b - 0xC0) * 64 + (d - 0x80) in
    let x : 0xC0 + n / 64 ≡ b = omega arith in
    let y : 0x80 + n % 64 ≡ d = omega arith in
    rw (le-ltb n 0x80 (omega arith), lt-ltb n 0x800 (omega arith), x, y)

code_3 : (b d f : ℕ) → 0xE0 ≤ b → b ≤ 0xEF → 0x80 ≤ d → d ≤ 0xBF → 0x80 ≤ f → f ≤ 0xBF → 0x800 ≤ (b - 0xE0) * 4096 + (d - 0x80) * 64 + (f - 0x80) → encode ((b - 0xE0) * 4096 + (d - 0x80) * 64 + (f - 0x80)) ≡ b ∷ d ∷ f ∷ []
code_3 b d f p q r s u v w =
    let n : ℕ = (b - 0xE0) * 4096 + (d - 0x80) * 64 + (f - 0x80) in
    let x : 0xE0 + n / 4096 ≡ b = omega arith in
    let y : 0x80 + n / 64 % 64 ≡ d = omega arith in
    let z : 0x80 + n % 64 ≡ f = omega arith in
    rw (le-ltb n 0x80 (omega arith), le-ltb n 0x800 w, lt-ltb n 0x10000 (omega arith), x, y, z)

code_4 : (b d f g : ℕ) → 0xF0 ≤ b → b ≤ 0xF4 → 0x80 ≤ d → d ≤ 0xBF → 0x80 ≤ f → f ≤ 0xBF → 0x80 ≤ g → g ≤ 0xBF → 0x10000 ≤ (b - 0xF0) * 262144 + (d - 0x80) * 4096 + (f - 0x80) * 64 + (g - 0x80) → encode ((b - 0xF0) * 262144 + (d - 0x80) * 4096 + (f - 0x80) * 64 + (g - 0x80)) ≡ b ∷ d ∷ f ∷ g ∷ []
code_4 b d f g p q r s u v h i w =
    let n : ℕ = (b - 0xF0) * 262144 + (d - 0x80) * 4096 + (f - 0x80) * 64 + (g - 0x80) in
    let x : 0xF0 + n / 262144 ≡ b = omega arith in
    let y : 0x80 + n / 4096 % 64 ≡ d = omega arith in
    let z : 0x80 + n / 64 % 64 ≡ f = omega arith in
    let k : 0x80 + n % 64 ≡ g = omega arith in
    rw (le-ltb n 0x80 (omega arith), le-ltb n 0x800 (omega arith), le-ltb n 0x10000 w, x, y, z, k)

-- a character's bytes before a text that is read already
before : (c : ℕ) {w t r : List ℕ} → encode c ≡ w → scalar c ≡ true → t ≡ w ++ r → Utf8 r → Utf8 t
before c {w} {t} {r} e s p u = subst Utf8 (ap (λ (x : List ℕ). x ++ r) e ∙ sym p) (scalar_then c s u)

-- b begins a character of one row of the table, and texts of at most k bytes are read already
module _ (k b : ℕ) (shorter : (r : List ℕ) → length r ≤ k → utf8 r ≡ true → Utf8 r) (t : List ℕ) (fits : length t ≤ k) where
  sound_1 : b < 0x80 → utf8 t ≡ true → Utf8 (b ∷ t)
  sound_1 p e = before b {w = b ∷ []} (rw (lt-ltb b 0x80 p)) (below b (omega arith)) refl (shorter t fits e)

  sound_2 : 0xC2 ≤ b → b ≤ 0xDF → well_formed 1 0x80 0xBF t ≡ true → Utf8 (b ∷ t)
  sound_2 p q e =
      let x = next 0 0x80 0xBF t e in
      before ((b - 0xC0) * 64 + (x.head - 0x80)) (code_2 b x.head p q x.from x.to) (below ((b - 0xC0) * 64 + (x.head - 0x80)) (omega arith))
      (ap (λ (r : List ℕ). b ∷ r) x.text)
      (shorter x.rest (omega (arith, ap length x.text)) x.good)

  sound_3 : (l h : ℕ) → 0xE0 ≤ b → b ≤ 0xEF → 0x80 ≤ l → h ≤ 0xBF → ((d f : ℕ) → l ≤ d → d ≤ h → 0x80 ≤ f → f ≤ 0xBF → (0x800 ≤ (b - 0xE0) * 4096 + (d - 0x80) * 64 + (f - 0x80)) × (scalar ((b - 0xE0) * 4096 + (d - 0x80) * 64 + (f - 0x80)) ≡ true)) → well_formed 2 l h t ≡ true → Utf8 (b ∷ t)
  sound_3 l h p q low high valid e =
      let x = next 1 l h t e in
      let y = next 0 0x80 0xBF x.rest x.good in
      let v = valid x.head y.head x.from x.to y.from y.to in
      before ((b - 0xE0) * 4096 + (x.head - 0x80) * 64 + (y.head - 0x80))
      (code_3 b x.head y.head p q (omega (arith, x.from)) (omega (arith, x.to)) y.from y.to v.0)
      v.1
      (ap (λ (r : List ℕ). b ∷ r) (x.text ∙ ap (λ (r : List ℕ). x.head ∷ r) y.text))
      (shorter y.rest (omega (arith, ap length x.text, ap length y.text)) y.good)

  sound_4 : (l h : ℕ) → 0xF0 ≤ b → b ≤ 0xF4 → 0x80 ≤ l → h ≤ 0xBF → ((d f g : ℕ) → l ≤ d → d ≤ h → 0x80 ≤ f → f ≤ 0xBF → 0x80 ≤ g → g ≤ 0xBF → (0x10000 ≤ (b - 0xF0) * 262144 + (d - 0x80) * 4096 + (f - 0x80) * 64 + (g - 0x80)) × ((b - 0xF0) * 262144 + (d - 0x80) * 4096 + (f - 0x80) * 64 + (g - 0x80) ≤ 0x10FFFF)) → well_formed 3 l h t ≡ true → Utf8 (b ∷ t)
  sound_4 l h p q low high valid e =
      let x = next 2 l h t e in
      let y = next 1 0x80 0xBF x.rest x.good in
      let z = next 0 0x80 0xBF y.rest y.good in
      let v = valid x.head y.head z.head x.from x.to y.from y.to z.from z.to in
      before ((b - 0xF0) * 262144 + (x.head - 0x80) * 4096 + (y.head - 0x80) * 64 + (z.head - 0x80))
      (code_4 b x.head y.head z.head p q (omega (arith, x.from)) (omega (arith, x.to)) y.from y.to z.from z.to v.0)
      (above ((b - 0xF0) * 262144 + (x.head - 0x80) * 4096 + (y.head - 0x80) * 64 + (z.head - 0x80)) (omega (arith, v.0)) v.1)
      (ap (λ (r : List ℕ). b ∷ r) (x.text ∙ ap (λ (r : List ℕ). x.head ∷ r) (y.text ∙ ap (λ (r : List ℕ). y.head ∷ r) z.text)))
      (shorter z.rest (omega (arith, ap length x.text, ap length y.text, ap length z.text)) z.good)

  -- after a byte that begins no character there is none
  no_next : well_formed 1 1 0 t ≡ true → Utf8 (b ∷ t)
  no_next e = let x = next 0 1 0 t e in absurd (omega (arith, x.from, x.to))

  -- which row b is in
  by_row : utf8 (b ∷ t) ≡ true → Utf8 (b ∷ t)
  by_row e =
      let at : (n l h : ℕ) → follows table b ≡ following n l h → well_formed n l h t ≡ true = λ n l h r. sym (lead 0x80 0xBF b t n l h r) ∙ e in
      split b 0x80
      (λ p. sound_1 p (at 0 0x80 0xBF (row_00 b (omega arith))))
      (λ p. split b 0xC2
      (λ q. no_next (at 1 1 0 (row_80 b p q)))
      (λ q. split b 0xE0
      (λ r. sound_2 q (omega arith) (at 1 0x80 0xBF (row_c2 b q (omega arith))))
      (λ r. split b 0xE1
      (λ u. sound_3 0xA0 0xBF r (omega arith) (omega arith) (omega arith) (λ d f i j m n. (omega arith, below ((b - 0xE0) * 4096 + (d - 0x80) * 64 + (f - 0x80)) (omega arith))) (at 2 0xA0 0xBF (row_e0 b r (omega arith))))
      (λ u. split b 0xED
      (λ v. sound_3 0x80 0xBF r (omega arith) (omega arith) (omega arith) (λ d f i j m n. (omega arith, below ((b - 0xE0) * 4096 + (d - 0x80) * 64 + (f - 0x80)) (omega arith))) (at 2 0x80 0xBF (row_e1 b u (omega arith))))
      (λ v. split b 0xEE
      (λ w. sound_3 0x80 0x9F r (omega arith) (omega arith) (omega arith) (λ d f i j m n. (omega arith, below ((b - 0xE0) * 4096 + (d - 0x80) * 64 + (f - 0x80)) (omega arith))) (at 2 0x80 0x9F (row_ed b v (omega arith))))
      (λ w. split b 0xF0
      (λ x. sound_3 0x80 0xBF r (omega arith) (omega arith) (omega arith) (λ d f i j m n. (omega arith, above ((b - 0xE0) * 4096 + (d - 0x80) * 64 + (f - 0x80)) (omega arith) (omega arith))) (at 2 0x80 0xBF (row_ee b w (omega arith))))
      (λ x. split b 0xF1
      (λ y. sound_4 0x90 0xBF x (omega arith) (omega arith) (omega arith) (λ d f g i j m n o z. (omega arith, omega arith)) (at 3 0x90 0xBF (row_f0 b x (omega arith))))
      (λ y. split b 0xF4
      (λ z. sound_4 0x80 0xBF x (omega arith) (omega arith) (omega arith) (λ d f g i j m n o a. (omega arith, omega arith)) (at 3 0x80 0xBF (row_f1 b y (omega arith))))
      (λ z. split b 0xF5
      (λ a. sound_4 0x80 0x8F x (omega arith) (omega arith) (omega arith) (λ d f g i j m n o c. (omega arith, omega arith)) (at 3 0x80 0x8F (row_f4 b z (omega arith))))
      (λ a. no_next (at 1 1 0 (row_f5 b a))))))))))))

up_to : (k : ℕ) (t : List ℕ) → length t ≤ k → utf8 t ≡ true → Utf8 t
up_to zero [] h e = nothing
up_to zero (b ∷ t) h e = absurd (not-suc-le-zero h)
up_to (suc k) [] h e = nothing
up_to (suc k) (b ∷ t) h e = by_row k b (λ r g u. up_to k r g u) t (le_of_suc-le-suc h) e

-- the two are the same
pub agrees : (t : List ℕ) → Utf8 t ↔ (utf8 t ≡ true)
agrees t = (complete, up_to (length t) t (le_refl (length t)))
