-- The division that is computed is the one of the grammar (`agrees`), so that a text has at most one (`unique`); and a divided text is
-- well-formed UTF-8 (`well_formed`). Assumes nothing.
use mathlib.Core.Path.{◌≡◌, refl, ◌∙◌}
use mathlib.Core.Bool.{Bool, true, false, not}
use mathlib.Core.Logic.{◌⊎◌, inl, inr, ⊎_elim, ◌↔◌}
use mathlib.Core.List.{List, [], ◌∷◌, ◌++◌, append_assoc, append-nil}
use Rattle.std.specs.Prelude.{Option, None, Some}
use Prim.Native.Nat.{ℕ, zero, suc, ◌+◌, ◌≤◌, ◌<◌}
use native.Mathlib.Nat.{add-zero, add_assoc}
use native.Mathlib.Omega.{arith}
use lib.Dec.{eqb}
use lib.ListN.{length, get_or, take, drop, length-append, take-append-drop}
use lib.Seq.{take-append_seam, drop-append_seam, drop-append-add, length-take-le}
use borrow.Author.Tests.{ne_eqb}
use Rattle.text.specs.Digits.{is_digit}
use Rattle.utf8.specs.Utf8.{Utf8, nothing, utf8}
use Rattle.white.specs.WhiteSpace.{White, white_len}
use Rattle.text.proofs.Bools.{within_under, within_over}
use Rattle.utf8.proofs.Utf8Agrees as Utf8Agrees
use Rattle.white.proofs.WhiteAgrees.{found, measures}
use Rattle.unit.specs.Units.{is_unit, word_len}
use Rattle.amount.specs.Grammar.{Value, Amount}
use Rattle.component.specs.Grammar.{Component, component, Complete, glued, apart, Divides, bare, last, more}
use Rattle.amount.specs.Scan.{amount_len}
use Rattle.component.specs.Division.{Step, bad, stop, go, end_step, unit_step, rest_step, amount_step, step, before, then, divide_by, divide}
use Rattle.white.proofs.Characters.{lead, white_some, white_utf8}
use Rattle.unit.proofs.Spelling.{unit_letters, letters_utf8, Ends, at_end, at_white, unit_first, unit_not_white, word_run}
use Rattle.unit.proofs.WordLaws.{Halts, word_is}
use Rattle.amount.proofs.AmountLaws.{Breaks, nothing_breaks, amount_run, amount_some, amount_utf8, Got, amount_is}

-- ---- white space and unit words end an amount

breaks : (b : ℕ) → (b ≤ 0x20) ⊎ (0x39 < b) → (is_digit b ≡ false) × (eqb b 0x2E ≡ false) × (eqb b 0x2D ≡ false)
breaks b (inl h) = (within_under 0x30 b 0x39 (omega arith), ne_eqb b 0x2E (λ e. omega arith), ne_eqb b 0x2D (λ e. omega arith))
breaks b (inr h) = (within_over 0x30 b 0x39 (omega arith), ne_eqb b 0x2E (λ e. omega arith), ne_eqb b 0x2D (λ e. omega arith))

white_breaks : {w : List ℕ} → White w → (x : List ℕ) → Breaks (w ++ x)
unfolding Breaks
white_breaks W x =
    let l = lead W in
    rw l.begins (breaks l.first (⊎_elim inl (λ h. inr (omega arith)) l.outside))

unit_breaks : (u x : List ℕ) → is_unit u ≡ true → Breaks (u ++ x)
unfolding Breaks
unit_breaks u x e = breaks (get_or (u ++ x) 0 0) (inr (unit_first u x e))

-- ---- a component that ends the text, or that white space follows, is read as it stands

module _ (a : List ℕ) (k : ℕ) (u x : List ℕ) (e : is_unit u ≡ true) (h : Ends x) where
  unit_read : (s : Bool) → unit_step a s k (u ++ x) ≡ end_step true (component a s (Some u)) (k + length u) x
  unfolding unit_step
  unit_read s = rw (word_run u x (unit_letters u e) h, take-append_seam u x, drop-append_seam u x, e)

-- what follows an amount is not empty
pub rest_cons : (a : List ℕ) (k : ℕ) (t : List ℕ) → 0 < length t → rest_step a k t ≡ unit_step a (not (eqb (white_len t) 0)) (k + white_len t) (drop (white_len t) t)
unfolding rest_step
rest_cons a k [] h = absurd (omega arith)
rest_cons a k (b ∷ t) h = refl

pub end_cons : (c : Component) (k : ℕ) (t : List ℕ) → 0 < length t → end_step true c k t ≡ go c (k + white_len t)
unfolding end_step
end_cons c k [] h = absurd (omega arith)
end_cons c k (b ∷ t) h = refl

unit_some : (u x : List ℕ) → is_unit u ≡ true → 0 < length (u ++ x)
unit_some u x e = from (u ++ x) (unit_first u x e)
  where
    from : (t : List ℕ) → 0x39 < get_or t 0 0 → 0 < length t
    from [] h = absurd (omega arith)
    from (b ∷ t) h = omega arith

glued_read : (a : List ℕ) (k : ℕ) (u x : List ℕ) → is_unit u ≡ true → Ends x → rest_step a k (u ++ x) ≡ end_step true (component a false (Some u)) (k + length u) x
glued_read a k u x e h = rest_cons a k (u ++ x) (unit_some u x e) ∙ rw (unit_not_white u x e, add-zero) (unit_read a k u x e h false)

apart_read : (a : List ℕ) (k : ℕ) {w : List ℕ} (u x : List ℕ) → White w → is_unit u ≡ true → Ends x → rest_step a k (w ++ (u ++ x)) ≡ end_step true (component a true (Some u)) ((k + length w) + length u) x
apart_read a k {w} u x W e h =
    rest_cons a k (w ++ (u ++ x)) (omega (arith, length-append w (u ++ x), white_some W)) ∙
    rw (measures W (u ++ x), drop-append_seam w (u ++ x), ne_eqb (length w) 0 (λ q. omega (arith, white_some W))) (unit_read a (k + length w) u x e h true)

amount_read : {n : ℕ} (a y : List ℕ) {v : Value} → Amount n a v → Breaks y → step n (a ++ y) ≡ rest_step a (length a) y
unfolding step amount_step
amount_read [] y A h = absurd (omega (arith, amount_some A))
amount_read (b ∷ a) y A h = rw (amount_run A y h, take-append_seam (b ∷ a) y, drop-append_seam (b ∷ a) y)

complete_read : {n : ℕ} {t : List ℕ} (x : List ℕ) {c : Component} → Complete n t c → Ends x → step n (t ++ x) ≡ end_step true c (length t) x
complete_read x (glued {a} {u} A e) h =
    rw (append_assoc a u x, amount_read a (u ++ x) A (unit_breaks u x e), glued_read a (length a) u x e h, length-append a u)
complete_read x (apart {a} {w} {u} A W e) h =
    rw (append_assoc a (w ++ u) x, append_assoc w u x, amount_read a (w ++ (u ++ x)) A (white_breaks W (u ++ x)), apart_read a (length a) u x W e h, length-append a (w ++ u), length-append w u, add_assoc)

bare_step : {n : ℕ} (a : List ℕ) {v : Value} → Amount n a v → step n a ≡ stop (component a false None)
unfolding rest_step
bare_step a A = rw append-nil at (amount_read a [] A nothing_breaks)

last_step : {n : ℕ} (t : List ℕ) (c : Component) → Complete n t c → step n t ≡ stop c
unfolding end_step
last_step t c C = rw append-nil at (complete_read [] C at_end)

more_step : {n : ℕ} (t w r : List ℕ) (c : Component) → Complete n t c → White w → step n (t ++ (w ++ r)) ≡ go c (length t + length w)
more_step t w r c C W =
    complete_read (w ++ r) C (at_white r W) ∙ end_cons c (length t) (w ++ r) (omega (arith, length-append w r, white_some W)) ∙ rw (measures W r)

past : (t w r : List ℕ) → drop (length t + length w) (t ++ (w ++ r)) ≡ r
past t w r = drop-append-add t (w ++ r) (length w) ∙ drop-append_seam w r

-- every division is the computed one
pub computed : {n : ℕ} (t : List ℕ) (d : List Component) (j : ℕ) → Divides n t d → length t < j → divide_by n j t ≡ Some d
unfolding divide_by then before
computed t d zero D h = absurd (omega arith)
computed t d (suc j) (bare {a} A) h = rw (bare_step a A)
computed t d (suc j) (last {t = u} {c} C) h = rw (last_step u c C)
computed t d (suc j) (more {t = u} {w} {r} {c} {d = e} C W R) h =
    rw (more_step u w r c C W, past u w r, computed r e j R (omega (arith, length-append u (w ++ r), length-append w r, white_some W)))

-- ---- what is computed is a division

-- what a step says of a text
pub data StepIs (n : ℕ) : List ℕ → Step → Type 0 where
  is_bad : {t : List ℕ} → StepIs n t bad
  is_stop : {t : List ℕ} {c : Component} → Divides n t (c ∷ []) → StepIs n t (stop c)
  is_go : {t : List ℕ} {c : Component} {k : ℕ} (u w r : List ℕ) → Complete n u c → White w → t ≡ u ++ (w ++ r) → k ≡ length u + length w → StepIs n t (go c k)

module _ {n : ℕ} where
  end_sound : (c : Component) (u x : List ℕ) (f : Bool) → (f ≡ true → Complete n u c) → Halts x → StepIs n (u ++ x) (end_step f c (length u) x)
  unfolding Halts end_step
  end_sound c u x false C h = is_bad
  end_sound c u [] true C h = rw append-nil (is_stop (last (C refl)))
  end_sound c u (b ∷ x) true C h =
      ⊎_elim
      (λ e. absurd (h e))
      (λ W. is_go u (take (white_len (b ∷ x)) (b ∷ x)) (drop (white_len (b ∷ x)) (b ∷ x)) (C refl) W.0
      (rw (take-append-drop (white_len (b ∷ x)) (b ∷ x)))
      (rw (length-take-le (white_len (b ∷ x)) (b ∷ x) W.1)))
      (found (b ∷ x))

  unit_sound : (a : List ℕ) (s : Bool) (p r : List ℕ) → ((u : List ℕ) → is_unit u ≡ true → Complete n (p ++ u) (component a s (Some u))) → StepIs n (p ++ r) (unit_step a s (length p) r)
  unfolding unit_step
  unit_sound a s p r C =
      rw (append_assoc, take-append-drop (word_len r) r, length-append, length-take-le (word_len r) r (word_is r).1)
      at (end_sound (component a s (Some (take (word_len r) r))) (p ++ take (word_len r) r) (drop (word_len r) r) (is_unit (take (word_len r) r)) (C (take (word_len r) r)) (word_is r).0)

  glued_sound : (a : List ℕ) (b : ℕ) (r : List ℕ) {v : Value} → Amount n a v → white_len (b ∷ r) ≡ 0 → StepIs n (a ++ (b ∷ r)) (rest_step a (length a) (b ∷ r))
  unfolding rest_step
  glued_sound a b r A e = rw (e, add-zero) (unit_sound a false a (b ∷ r) (λ u U. glued A U))

  apart_sound : (a l : List ℕ) (k : ℕ) {v : Value} → Amount n a v → White (take k l) → k ≤ length l → StepIs n (a ++ l) (unit_step a (not (eqb k 0)) (length a + k) (drop k l))
  apart_sound a l k A W h =
      rw (ne_eqb k 0 (λ e. omega (arith, length-take-le k l h, white_some W)))
      (rw (append_assoc, take-append-drop k l, length-append, length-take-le k l h)
      at (unit_sound a true (a ++ take k l) (drop k l) (λ u U. rw append_assoc (apart A W U))))

  rest_sound : (a r : List ℕ) {v : Value} → Amount n a v → StepIs n (a ++ r) (rest_step a (length a) r)
  unfolding rest_step
  rest_sound a [] A = rw append-nil (is_stop (bare A))
  rest_sound a (b ∷ r) A =
      ⊎_elim (λ e. glued_sound a b r A e) (λ W. apart_sound a (b ∷ r) (white_len (b ∷ r)) A W.0 W.1) (found (b ∷ r))

  amount_sound : (t : List ℕ) (k : ℕ) → Got n t k → StepIs n t (amount_step k t)
  unfolding amount_step Got
  amount_sound t zero g = is_bad
  amount_sound t (suc k) (inl e) = absurd (omega arith)
  amount_sound t (suc k) (inr g) =
      rw (take-append-drop (suc k) t, length-take-le (suc k) t g.2) at (rest_sound (take (suc k) t) (drop (suc k) t) g.1)

  pub step_sound : (t : List ℕ) → StepIs n t (step n t)
  unfolding step
  step_sound t = amount_sound t (amount_len n t) (amount_is n t)

before_is : (c : Component) (o : Option (List Component)) (d : List Component) → before c o ≡ Some d → (e : List Component) × (o ≡ Some e) × (d ≡ c ∷ e)
unfolding before
before_is c None d e = cc
before_is c (Some r) d e = (r, refl, cc)

then_sound : {n : ℕ} (t : List ℕ) (s : Step) → StepIs n t s → (f : ℕ → Option (List Component)) → ((k : ℕ) (d : List Component) → f k ≡ Some d → Divides n (drop k t) d) → (d : List Component) → then s f ≡ Some d → Divides n t d
unfolding then
then_sound t s is_bad f h d e = cc
then_sound t s (is_stop {c} D) f h d e = let q : c ∷ [] ≡ d = cc in rw q at D
then_sound {n} t s (is_go {c} {k} u w r C W et ek) f h d e =
    let g = before_is c (f k) d e in
    let q : drop k t ≡ r = rw (et, ek, past u w r) in
    let R : Divides n r g.0 = rw q at (h k g.0 g.1) in
    rw (g.2, et) (more C W R)

pub sound : {n : ℕ} (j : ℕ) (t : List ℕ) (d : List Component) → divide_by n j t ≡ Some d → Divides n t d
unfolding divide_by
sound zero t d e = cc
sound {n} (suc j) t d e = then_sound t (step n t) (step_sound t) (λ k. divide_by n j (drop k t)) (λ k r. sound j (drop k t) r) d e

-- ---- THE DIVISION

-- a list of components is a division of a text exactly where it is the one computed
pub agrees : (n : ℕ) (t : List ℕ) (d : List Component) → Divides n t d ↔ (divide n t ≡ Some d)
unfolding divide
agrees n t d = (λ D. computed t d (suc (length t)) D (omega arith), λ e. sound (suc (length t)) t d e)

-- any two divisions of a text are equal
pub unique : {n : ℕ} {t : List ℕ} {d e : List Component} → Divides n t d → Divides n t e → d ≡ e
unique {n} {t} {d} {e} D E = let p = (agrees n t d).0 D in let q = (agrees n t e).0 E in cc

-- ---- UTF-8

complete_utf8 : {n : ℕ} {t r : List ℕ} {c : Component} → Complete n t c → Utf8 r → Utf8 (t ++ r)
complete_utf8 {r = r} (glued {a} {u} A e) x = rw (append_assoc a u r) (amount_utf8 A (letters_utf8 (unit_letters u e) x))
complete_utf8 {r = r} (apart {a} {w} {u} A W e) x =
    rw (append_assoc a (w ++ u) r, append_assoc w u r) (amount_utf8 A (white_utf8 W (letters_utf8 (unit_letters u e) x)))

-- a text that has a division is well-formed
pub well_formed : {n : ℕ} {t : List ℕ} {d : List Component} → Divides n t d → Utf8 t
well_formed (bare {a} A) = rw append-nil at (amount_utf8 A nothing)
well_formed (last C) = rw append-nil at (complete_utf8 C nothing)
well_formed (more C W R) = complete_utf8 C (white_utf8 W (well_formed R))

-- the same of what is computed
pub divided_utf8 : (n : ℕ) (t : List ℕ) (d : List Component) → divide n t ≡ Some d → utf8 t ≡ true
divided_utf8 n t d e = (Utf8Agrees.agrees t).0 (well_formed ((agrees n t d).1 e))
