-- What a whole column means and what is computed of it are the same (`agrees`), so bytes, ends and a number of cells have one answer; and
-- texts lie as the ends say exactly where the ends neither fall nor pass the bytes (`lie`). Assumes nothing.
use mathlib.Core.Path.{◌≡◌, refl, sym, ap, ◌∙◌}
use mathlib.Core.Bool.{true, false}
use mathlib.Core.Logic.{◌↔◌}
use mathlib.Core.List.{List, [], ◌∷◌, ◌++◌}
use Prim.Native.Nat.{ℕ, ◌+◌, ◌-◌, ◌≤◌, zero-le}
use native.Mathlib.Omega.{arith}
use lib.Dec.{leb}
use lib.IntN.{ℤ}
use lib.ListN.{length, take, drop, length-append, length-drop, take-append-drop}
use lib.Seq.{drop-drop, length-take-le, take-append_seam, drop-append_seam}
use borrow.Author.Tests.{leb-true, leb-false, le-leb, lt-leb}
use Rattle.refusal.specs.Outcome.{Outcome, accepted, refused}
use Rattle.text.specs.Digits.{within}
use Rattle.text.proofs.Bools.{by_test, both_ways, and_left, and_right, and_false, within_yes, within_is}
use Rattle.whole_column.specs.Answer.{Whole, all_accepted, first_refused, in_order, cut, behind, on_text, read_all, whole}
use Rattle.whole_column.specs.Meaning.{Lie, no_more, one_more, FallOrPass, falls, passes, later, AllAccepted, none, one, FirstRefused, this, a_later, Means, accepts, refuses, bad_ends, too_few_cells}

-- ---- ends

-- ends in order: the first does not fall nor pass, and the later ones are in order
pub in_order_lem : (n from end : ℕ) (ends : List ℕ) → in_order n from (end ∷ ends) ≡ true
    → ((from ≤ end) × (end ≤ n)) × (in_order n end ends ≡ true)
unfolding in_order
in_order_lem n from end ends e =
    (within_is from end n (and_left (within from end n) (in_order n end ends) e), and_right (within from end n) (in_order n end ends) e)

pub ordered : (n from end : ℕ) (ends : List ℕ) → from ≤ end → end ≤ n → in_order n end ends ≡ true → in_order n from (end ∷ ends) ≡ true
unfolding in_order
ordered n from end ends h k e = rw (within_yes from end n h k, e) refl

not_bad : (n from : ℕ) (ends : List ℕ) → in_order n from ends ≡ true → FallOrPass n from ends → ⊥
not_bad n from [] e h = elim h [ ]
not_bad n from (end ∷ ends) e (falls h) = omega (arith, (in_order_lem n from end ends e).0.0, h)
not_bad n from (end ∷ ends) e (passes h) = omega (arith, (in_order_lem n from end ends e).0.1, h)
not_bad n from (end ∷ ends) e (later b) = not_bad n end ends (in_order_lem n from end ends e).1 b

bad : (n from : ℕ) (ends : List ℕ) → in_order n from ends ≡ false → FallOrPass n from ends
unfolding in_order
bad n from [] e = both_ways true e refl
bad n from (end ∷ ends) e =
    by_test (leb from end)
    (λ f. by_test (leb end n)
    (λ p. later (bad n end ends (sym (rw (within_yes from end n (leb-true from end f) (leb-true end n p)) refl) ∙ e)))
    (λ p. passes (leb-false end n p)))
    (λ f. falls (leb-false from end f))

-- ---- texts

-- what stands behind an end, once the text before it is taken
behind_end : (bytes : List ℕ) (from end : ℕ) → from ≤ end → drop (end - from) (drop from bytes) ≡ drop end bytes
behind_end bytes from end h =
    let q : from + (end - from) ≡ end = omega (arith, h) in
    drop-drop (end - from) from bytes ∙ ap (λ (k : ℕ). drop k bytes) q

in_bytes : {from : ℕ} {a b ends : List ℕ} {texts : List (List ℕ)} → a ≡ b → Lie from a ends texts → Lie from b ends texts
in_bytes e l = rw (← e) l

-- in order, the texts that are cut out lie as the ends say
lies : (bytes : List ℕ) (from : ℕ) (ends : List ℕ) → from ≤ length bytes → in_order (length bytes) from ends ≡ true
    → Lie from (drop from bytes) ends (cut bytes from ends)
unfolding cut
lies bytes from [] h e = no_more
lies bytes from (end ∷ ends) h e =
    let q = in_order_lem (length bytes) from end ends e in
    let t : List ℕ = take (end - from) (drop from bytes) in
    let l : length t ≡ end - from = length-take-le (end - from) (drop from bytes) (rw (length-drop from bytes) (omega (arith, q.0.0, q.0.1))) in
    let whole_rest : t ++ drop end bytes ≡ drop from bytes =
    ap (λ (r : List ℕ). t ++ r) (sym (behind_end bytes from end q.0.0)) ∙ take-append-drop (end - from) (drop from bytes) in
    let at_end : end ≡ from + length t = omega (arith, q.0.0, l) in
    in_bytes whole_rest (one_more at_end (lies bytes end ends q.0.1 q.1))

-- and no others do
cut_out : (bytes : List ℕ) (from : ℕ) {rest ends : List ℕ} {texts : List (List ℕ)} → from ≤ length bytes → drop from bytes ≡ rest
    → Lie from rest ends texts → (in_order (length bytes) from ends ≡ true) × (cut bytes from ends ≡ texts)
unfolding in_order cut
cut_out bytes from h e no_more = (refl, refl)
cut_out bytes from h e (one_more {end = end} {t} {rest} {ends} {texts} q l) =
    let n : length bytes - from ≡ length t + length rest = sym (length-drop from bytes) ∙ ap length e ∙ length-append t rest in
    let end_in : end ≤ length bytes = omega (arith, q, n, h) in
    let len : end - from ≡ length t = omega (arith, q) in
    let r : drop end bytes ≡ rest =
    sym (behind_end bytes from end (omega (arith, q))) ∙ ap (λ (k : ℕ). drop k (drop from bytes)) len ∙ ap (drop (length t)) e ∙ drop-append_seam t rest in
    let c = cut_out bytes end end_in r l in
    let this_text : take (end - from) (drop from bytes) ≡ t = ap (λ (k : ℕ). take k (drop from bytes)) len ∙ ap (take (length t)) e ∙ take-append_seam t rest in
    (ordered (length bytes) from end ends (omega (arith, q)) end_in c.0, rw (this_text, c.1) refl)

-- texts lie as the ends say exactly where no end falls or passes the bytes
pub lie : (bytes ends : List ℕ) → (FallOrPass (length bytes) 0 ends → ⊥) ↔ ((texts : List (List ℕ)) × Lie 0 bytes ends texts)
lie bytes ends = (
  λ h. by_test (in_order (length bytes) 0 ends) (λ e. (cut bytes 0 ends, lies bytes 0 ends zero-le e)) (λ e. absurd (h (bad (length bytes) 0 ends e))),
  λ l. not_bad (length bytes) 0 ends (cut_out bytes 0 zero-le refl l.1).0,
)

-- ---- answers

module _ (read : List ℕ → Outcome ℤ) where
  -- an answer of texts that is meant
  data Judged (texts : List (List ℕ)) : Whole → Type 0 where
    fine : {zs : List ℤ} → AllAccepted read texts zs → Judged texts (all_accepted zs)
    not_fine : {n i : ℕ} → FirstRefused read texts n i → Judged texts (first_refused n i)

  one_text : {t : List ℕ} {texts : List (List ℕ)} (o : Outcome ℤ) → read t ≡ o → {w : Whole} → Judged texts w → Judged (t ∷ texts) (on_text o w)
  unfolding on_text behind
  one_text (accepted z) e (fine a) = fine (one e a)
  one_text (accepted z) e (not_fine f) = not_fine (a_later e f)
  one_text (refused n) e j = not_fine (this e)

  judge : (texts : List (List ℕ)) → Judged texts (read_all read texts)
  unfolding read_all
  judge [] = fine none
  judge (t ∷ texts) = one_text (read t) refl (judge texts)

  pub all_read : {texts : List (List ℕ)} {zs : List ℤ} → AllAccepted read texts zs → read_all read texts ≡ all_accepted zs
  unfolding read_all on_text behind
  all_read none = refl
  all_read (one e a) = rw (e, all_read a) refl

  pub first_found : {texts : List (List ℕ)} {n i : ℕ} → FirstRefused read texts n i → read_all read texts ≡ first_refused n i
  unfolding read_all on_text behind
  first_found (this e) = rw e refl
  first_found (a_later e f) = rw (e, first_found f) refl

  module _ (bytes ends : List ℕ) (cells : ℕ) where
    of_judged : {w : Whole} → in_order (length bytes) 0 ends ≡ true → length ends ≤ cells → Judged (cut bytes 0 ends) w → Means read bytes ends cells w
    of_judged e h (fine a) = accepts (lies bytes 0 ends zero-le e) h a
    of_judged e h (not_fine f) = refuses (lies bytes 0 ends zero-le e) h f

    meant : Means read bytes ends cells (whole read bytes ends cells)
    unfolding whole
    meant =
        by_test (in_order (length bytes) 0 ends)
        (λ e. by_test (leb (length ends) cells)
        (λ f. rw (e, f) (of_judged e (leb-true (length ends) cells f) (judge (cut bytes 0 ends))))
        (λ f. rw (e, f) (too_few_cells (leb-false (length ends) cells f))))
        (λ e. rw e (bad_ends (bad (length bytes) 0 ends e)))

    computed : {w : Whole} → Means read bytes ends cells w → whole read bytes ends cells ≡ w
    unfolding whole
    computed (accepts l h a) =
        let c = cut_out bytes 0 zero-le refl l in
        rw (c.0, le-leb (length ends) cells h, c.1) (all_read a)
    computed (refuses l h f) =
        let c = cut_out bytes 0 zero-le refl l in
        rw (c.0, le-leb (length ends) cells h, c.1) (first_found f)
    computed (bad_ends b) =
        by_test (in_order (length bytes) 0 ends) (λ e. absurd (not_bad (length bytes) 0 ends e b)) (λ e. rw e refl)
    computed (too_few_cells h) = rw (lt-leb (length ends) cells h, and_false (in_order (length bytes) 0 ends)) refl

    -- bytes, ends and a number of cells mean w exactly when w is what is computed
    pub agrees : (w : Whole) → Means read bytes ends cells w ↔ (whole read bytes ends cells ≡ w)
    agrees w = (computed, λ e. rw (← e) meant)
