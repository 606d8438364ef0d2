-- The division of a text from a place `at` on, step by step: no component there, a last one, or one more with white space behind it.
-- Assumes nothing.
use mathlib.Core.Path.{◌≡◌, refl, sym, ap, ◌∙◌}
use mathlib.Core.Bool.{true, false, not}
use mathlib.Core.List.{List, [], ◌∷◌, ◌++◌}
use Rattle.std.specs.Prelude.{Option, None, Some}
use Prim.Native.Nat.{ℕ, zero, suc, ◌+◌, ◌-◌, ◌≤◌, ◌<◌}
use native.Mathlib.Omega.{arith}
use lib.Dec.{eqb}
use lib.ListN.{length, take, drop, length-append, length-drop, drop_of_length-le}
use lib.Seq.{drop-drop}
use Rattle.white.specs.WhiteSpace.{white_len}
use Rattle.unit.specs.Units.{is_unit, word_len}
use Rattle.component.specs.Grammar.{Component, component}
use Rattle.amount.specs.Scan.{amount_len}
use Rattle.component.specs.Division.{Step, bad, stop, go, end_step, unit_step, rest_step, amount_step, step, before, then, divide_by, divide}
use Rattle.white.proofs.Characters.{white_some}
use Rattle.amount.proofs.AmountLaws.{past_text}
use Rattle.component.proofs.Agreement.{StepIs, is_bad, is_stop, is_go, step_sound, computed, sound, agrees, rest_cons, end_cons}

-- ---- the count of components does not matter

enough : (n j : ℕ) (t : List ℕ) → length t < j → divide_by n j t ≡ divide n t
enough n j t h = from (divide_by n j t) refl (divide n t) refl
  where
    from : (o : Option (List Component)) → divide_by n j t ≡ o → (q : Option (List Component)) → divide n t ≡ q → divide_by n j t ≡ divide n t
    from (Some d) e q f = e ∙ sym ((agrees n t d).0 (sound j t d e))
    from None e None f = e ∙ sym f
    from None e (Some d) f = let q = sym e ∙ computed t d j ((agrees n t d).1 f) h in cc

-- how far a step goes
go_far : {n : ℕ} (t : List ℕ) (s : Step) → StepIs n t s → (c : Component) (k : ℕ) → s ≡ go c k → (0 < k) × (k ≤ length t)
go_far t s is_bad c k e = let z : ◌≡◌ {A = ℕ} 0 1 = cc in absurd (omega arith)
go_far t s (is_stop D) c k e = let z : ◌≡◌ {A = ℕ} 0 1 = cc in absurd (omega arith)
go_far t s (is_go {k = m} u w r C W te ke) c k e =
    let q : m ≡ k = cc in
    (omega (arith, white_some W), omega (arith, ap length te, length-append u (w ++ r), length-append w r))

-- ---- the division from a place on

-- one more component: what the text has from `at` on, where x is the place behind the white space
pub record OneMore (n : ℕ) (s : List ℕ) (at : ℕ) (c : Component) (x : ℕ) : Type 0 where
  pub divided : divide n (drop at s) ≡ before c (divide n (drop x s))
  pub further : at < x
  pub inside : x ≤ length s

module _ (n : ℕ) (s : List ℕ) (at : ℕ) where
  pub at_bad : step n (drop at s) ≡ bad → divide n (drop at s) ≡ None
  unfolding divide divide_by then
  at_bad e = rw e

  pub at_last : {c : Component} → step n (drop at s) ≡ stop c → divide n (drop at s) ≡ Some (c ∷ [])
  unfolding divide divide_by then
  at_last e = rw e

  pub at_more : {c : Component} {k : ℕ} → step n (drop at s) ≡ go c k → OneMore n s at c (at + k)
  unfolding divide divide_by then
  at_more {c} {k} e =
      let f = go_far (drop at s) (step n (drop at s)) (step_sound (drop at s)) c k e in
      let l = length-drop at s in
      let g : divide_by n (length (drop at s)) (drop k (drop at s)) ≡ divide n (drop k (drop at s)) = enough n (length (drop at s)) (drop k (drop at s)) (omega (arith, length-drop k (drop at s))) in
      record {
        divided = rw (e, g, drop-drop k at s);
        further = omega arith;
        inside = omega arith;
      }

-- ---- the step at a place: an amount from `at` to e, white space of w bytes from e to f, a word from f to g

module _ (n : ℕ) (s : List ℕ) (at : ℕ) where
  -- no amount there
  pub no_amount : amount_len n (drop at s) ≡ 0 → step n (drop at s) ≡ bad
  unfolding step amount_step
  no_amount h = rw h

  -- nothing stands past the end
  pub past_end : length s ≤ at → step n (drop at s) ≡ bad
  past_end h = no_amount (past_text n s at h)

  module _ (e : ℕ) (E : e ≡ at + amount_len n (drop at s)) (some_amount : at < e) where
    after_amount : step n (drop at s) ≡ rest_step (take (e - at) (drop at s)) (e - at) (drop e s)
    unfolding step amount_step
    after_amount = from (amount_len n (drop at s)) refl
      where
        from : (k : ℕ) → amount_len n (drop at s) ≡ k → amount_step (amount_len n (drop at s)) (drop at s) ≡ rest_step (take (e - at) (drop at s)) (e - at) (drop e s)
        from zero q = absurd (omega arith)
        from (suc k) q =
            let x : e - at ≡ suc k = omega arith in
            let y : at + suc k ≡ e = omega arith in
            rw (q, x, drop-drop (suc k) at s, y)

    -- the text ends behind the amount
    pub amount_last : length s ≤ e → step n (drop at s) ≡ stop (component (take (e - at) (drop at s)) false None)
    unfolding rest_step
    amount_last h = after_amount ∙ rw (drop_of_length-le s h)

    module _ (w f g : ℕ) (l : e < length s) (W : w ≡ white_len (drop e s)) (F : f ≡ e + w) (G : g ≡ f + word_len (drop f s)) where
      abbrev This : Component
      This = component (take (e - at) (drop at s)) (not (eqb w 0)) (Some (take (g - f) (drop f s)))

      after_word : step n (drop at s) ≡ end_step (is_unit (take (g - f) (drop f s))) This (((e - at) + w) + (g - f)) (drop g s)
      unfolding unit_step
      after_word =
          let p : 0 < length (drop e s) = omega (arith, length-drop e s) in
          let q : word_len (drop f s) ≡ g - f = omega arith in
          let r : f + (g - f) ≡ g = omega arith in
          after_amount ∙
          rest_cons (take (e - at) (drop at s)) (e - at) (drop e s) p ∙
          rw (← W, drop-drop w e s, ← F, q, drop-drop (g - f) f s, r)

      -- the word is no unit
      pub word_bad : is_unit (take (g - f) (drop f s)) ≡ false → step n (drop at s) ≡ bad
      unfolding end_step
      word_bad h = after_word ∙ rw h

      -- the text ends behind the unit
      pub unit_last : is_unit (take (g - f) (drop f s)) ≡ true → length s ≤ g → step n (drop at s) ≡ stop (component (take (e - at) (drop at s)) (not (eqb w 0)) (Some (take (g - f) (drop f s))))
      unfolding end_step
      unit_last h k = after_word ∙ rw (h, drop_of_length-le s k)

      -- white space of x bytes follows the unit
      pub unit_more : is_unit (take (g - f) (drop f s)) ≡ true → g < length s → (x : ℕ) → x ≡ white_len (drop g s) → step n (drop at s) ≡ go (component (take (e - at) (drop at s)) (not (eqb w 0)) (Some (take (g - f) (drop f s)))) (g + x - at)
      unit_more h k x X =
          let p : 0 < length (drop g s) = omega (arith, length-drop g s) in
          let m : (((e - at) + w) + (g - f)) + white_len (drop g s) ≡ g + x - at = omega arith in
          after_word ∙ rw h (end_cons This (((e - at) + w) + (g - f)) (drop g s) p ∙ rw m)
