-- What a whole column means (document 02, No. 1), over any reader of a text, as relations.
-- `Rattle.whole_column.proofs.Agreement` joins them to the computation `whole`. Assumes nothing.
use Rattle.std.specs.Prelude.{◌≡◌, List, [], ◌∷◌, ◌++◌, ℕ, zero, suc, ◌+◌, ◌≤◌, ◌<◌, ℤ, length}
use Rattle.refusal.specs.Outcome.{Outcome, accepted, refused}
use Rattle.whole_column.specs.Answer.{Whole, all_accepted, first_refused, not_read}

-- "Texts lie end to end in a lent slice, with a lent list of their ends": from byte `from` on, in the bytes that stand there; bytes may
-- remain behind the last end
pub data Lie : ℕ → List ℕ → List ℕ → List (List ℕ) → Type 0 where
  no_more : {from : ℕ} {rest : List ℕ} → Lie from rest [] []
  one_more : {from end : ℕ} {t rest ends : List ℕ} {texts : List (List ℕ)} → end ≡ from + length t → Lie end rest ends texts
      → Lie from (t ++ rest) (end ∷ ends) (t ∷ texts)

-- "ends that fall or pass the bytes", of which there are n; the end before the first is `from`
pub data FallOrPass (n : ℕ) : ℕ → List ℕ → Type 0 where
  falls : {from end : ℕ} {ends : List ℕ} → end < from → FallOrPass n from (end ∷ ends)
  passes : {from end : ℕ} {ends : List ℕ} → n < end → FallOrPass n from (end ∷ ends)
  later : {from end : ℕ} {ends : List ℕ} → FallOrPass n end ends → FallOrPass n from (end ∷ ends)

module _ (read : List ℕ → Outcome ℤ) where
  -- "every text is accepted", with these values in order
  pub data AllAccepted : List (List ℕ) → List ℤ → Type 0 where
    none : AllAccepted [] []
    one : {t : List ℕ} {texts : List (List ℕ)} {z : ℤ} {zs : List ℤ} → read t ≡ accepted z → AllAccepted texts zs
        → AllAccepted (t ∷ texts) (z ∷ zs)

  -- "the first refused text in order gives its number and index", from 0
  pub data FirstRefused : List (List ℕ) → ℕ → ℕ → Type 0 where
    this : {t : List ℕ} {texts : List (List ℕ)} {n : ℕ} → read t ≡ refused n → FirstRefused (t ∷ texts) n zero
    a_later : {t : List ℕ} {texts : List (List ℕ)} {z : ℤ} {n i : ℕ} → read t ≡ accepted z → FirstRefused texts n i
        → FirstRefused (t ∷ texts) n (suc i)

  -- what bytes, ends and a number of cells mean: "the first text starts at byte 0"
  pub data Means (bytes ends : List ℕ) (cells : ℕ) : Whole → Type 0 where
    accepts : {texts : List (List ℕ)} {zs : List ℤ} → Lie 0 bytes ends texts → length ends ≤ cells → AllAccepted texts zs
        → Means bytes ends cells (all_accepted zs)
    refuses : {texts : List (List ℕ)} {n i : ℕ} → Lie 0 bytes ends texts → length ends ≤ cells → FirstRefused texts n i
        → Means bytes ends cells (first_refused n i)
    -- "Refusal 13, before any text is read, is for ends that fall or pass the bytes, or too few cells"
    bad_ends : FallOrPass (length bytes) 0 ends → Means bytes ends cells (not_read 13)
    too_few_cells : cells < length ends → Means bytes ends cells (not_read 13)
