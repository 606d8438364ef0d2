-- What a whole column's answer does not depend on: the bytes past the last end (`unread`); and 13 neither on the reader nor on what the
-- bytes are (`before_any_text`). Assumes nothing.
use mathlib.Core.Path.{◌≡◌, refl, sym, ◌∙◌}
use mathlib.Core.Bool.{true}
use mathlib.Core.List.{List, [], ◌∷◌, ◌++◌}
use Prim.Native.Nat.{ℕ, ◌-◌, ◌≤◌, zero-le}
use native.Mathlib.Omega.{arith}
use lib.IntN.{ℤ}
use lib.ListN.{length, take, drop, length-append, length-drop}
use lib.Seq.{take-append-le, drop-append-le}
use Rattle.refusal.specs.Outcome.{Outcome}
use Rattle.text.proofs.Bools.{by_test, both_ways}
use Rattle.whole_column.specs.Answer.{Whole, all_accepted, first_refused, not_read, in_order, cut, whole}
use Rattle.whole_column.specs.Meaning.{Means, accepts, refuses, bad_ends, too_few_cells}
use Rattle.whole_column.proofs.Agreement.{in_order_lem, ordered, agrees}

-- the last end; the end before the first is `from`
unfoldable pub last_end : ℕ → List ℕ → ℕ
last_end from [] = from
last_end from (end ∷ ends) = last_end end ends

-- ends in order are at most the last
up_to_last : (n from : ℕ) (ends : List ℕ) → in_order n from ends ≡ true → from ≤ last_end from ends
unfolding last_end
up_to_last n from [] e = omega arith
up_to_last n from (end ∷ ends) e =
    let q = in_order_lem n from end ends e in
    omega (arith, q.0.0, up_to_last n end ends q.1)

-- so they are in order for any number of bytes that the last does not pass
other_length : (n m from : ℕ) (ends : List ℕ) → last_end from ends ≤ m → in_order n from ends ≡ true → in_order m from ends ≡ true
unfolding last_end in_order
other_length n m from [] h e = refl
other_length n m from (end ∷ ends) h e =
    let q = in_order_lem n from end ends e in
    ordered m from end ends q.0.0 (omega (arith, h, up_to_last n end ends q.1)) (other_length n m end ends h q.1)

same_order : (n m from : ℕ) (ends : List ℕ) → last_end from ends ≤ n → last_end from ends ≤ m → in_order n from ends ≡ in_order m from ends
same_order n m from ends h k =
    by_test (in_order n from ends)
    (λ e. e ∙ sym (other_length n m from ends k e))
    (λ e. by_test (in_order m from ends) (λ f. both_ways (in_order n from ends) e (other_length m n from ends h f)) (λ f. e ∙ sym f))

-- and the texts are cut out of the bytes up to there
same_texts : (head more : List ℕ) (from : ℕ) (ends : List ℕ) → from ≤ length head → in_order (length head) from ends ≡ true
    → cut (head ++ more) from ends ≡ cut head from ends
unfolding cut
same_texts head more from [] h e = refl
same_texts head more from (end ∷ ends) h e =
    let q = in_order_lem (length head) from end ends e in
    let t : take (end - from) (drop from head ++ more) ≡ take (end - from) (drop from head) =
    take-append-le (end - from) (drop from head) more (rw (length-drop from head) (omega (arith, q.0.0, q.0.1))) in
    rw (drop-append-le from head more h, t, same_texts head more end ends q.0.1 q.1) refl

-- whatever stands behind the last end, the answer is that of the bytes before it
pub unread : (read : List ℕ → Outcome ℤ) (head more ends : List ℕ) (cells : ℕ) → last_end 0 ends ≤ length head
    → whole read (head ++ more) ends cells ≡ whole read head ends cells
unfolding whole
unread read head more ends cells h =
    rw (same_order (length (head ++ more)) (length head) 0 ends (rw (length-append head more) (omega (arith, h))) h)
    (by_test (in_order (length head) 0 ends) (λ e. rw (e, same_texts head more 0 ends zero-le e) refl) (λ e. rw e refl))

-- ---- 13

accepted_read : {zs : List ℤ} {n : ℕ} {A : Type 0} → all_accepted zs ≡ not_read n → A
accepted_read e = let x : ◌≡◌ {A = ℕ} 0 1 = cc in absurd (omega arith)

refused_read : {m i n : ℕ} {A : Type 0} → first_refused m i ≡ not_read n → A
refused_read e = let x : ◌≡◌ {A = ℕ} 0 1 = cc in absurd (omega arith)

module _ (read other : List ℕ → Outcome ℤ) (bytes others ends : List ℕ) (cells n : ℕ) (h : length bytes ≡ length others) where
  means_13 : {w : Whole} → Means read bytes ends cells w → w ≡ not_read n → Means other others ends cells w
  means_13 (accepts l k a) e = accepted_read e
  means_13 (refuses l k f) e = refused_read e
  means_13 (bad_ends b) e = bad_ends (rw h at b)
  means_13 (too_few_cells k) e = too_few_cells k

  -- 13 is found before any text is read: whatever the reader is and the bytes are, if they are as many
  pub before_any_text : whole read bytes ends cells ≡ not_read n → whole other others ends cells ≡ not_read n
  before_any_text e = (agrees other others ends cells (not_read n)).0 (means_13 ((agrees read bytes ends cells (not_read n)).1 e) refl)
