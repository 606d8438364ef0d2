-- What the cells hold where every text is accepted: as many values as ends, in the first cells in order, and later cells as they were
-- (`held`). Assumes nothing.
use mathlib.Core.Path.{◌≡◌, refl, ap, ◌∙◌}
use mathlib.Core.List.{List}
use Prim.Native.Nat.{ℕ, suc, ◌≤◌}
use native.Mathlib.Omega.{arith}
use lib.IntN.{ℤ}
use lib.ListN.{length, take, drop, length-append, length-drop}
use lib.Seq.{take-append_seam, drop-append_seam}
use Rattle.refusal.specs.Outcome.{Outcome}
use Rattle.whole_column.specs.Answer.{Whole, all_accepted, first_refused, not_read, stored, whole}
use Rattle.whole_column.specs.Meaning.{Lie, no_more, one_more, AllAccepted, none, one, Means, accepts, refuses, bad_ends, too_few_cells}
use Rattle.whole_column.proofs.Agreement.{agrees}

-- a text for each end
for_each_end : {from : ℕ} {rest ends : List ℕ} {texts : List (List ℕ)} → Lie from rest ends texts → length texts ≡ length ends
for_each_end no_more = refl
for_each_end (one_more e l) = ap suc (for_each_end l)

-- and a value for each text
for_each_text : (read : List ℕ → Outcome ℤ) {texts : List (List ℕ)} {zs : List ℤ} → AllAccepted read texts zs → length zs ≡ length texts
for_each_text read none = refl
for_each_text read (one e a) = ap suc (for_each_text read a)

module _ (read : List ℕ → Outcome ℤ) (bytes ends : List ℕ) where
  abbrev Counted : ℕ → Whole → Type 0
  Counted cells (all_accepted zs) = (length zs ≡ length ends) × (length ends ≤ cells)
  Counted cells (first_refused n i) = Unit
  Counted cells (not_read n) = Unit

  counted : (cells : ℕ) {w : Whole} → Means read bytes ends cells w → Counted cells w
  counted cells (accepts l h a) = (for_each_text read a ∙ for_each_end l, h)
  counted cells (refuses l h f) = tt
  counted cells (bad_ends b) = tt
  counted cells (too_few_cells h) = tt

  module _ (cells zs : List ℤ) where
    -- as many values as ends, and room for them
    pub as_many : whole read bytes ends (length cells) ≡ all_accepted zs → (length zs ≡ length ends) × (length ends ≤ length cells)
    as_many e = counted (length cells) ((agrees read bytes ends (length cells) (all_accepted zs)).1 e)

    -- the first cells hold the values in order, later cells are unchanged, and there are as many as before
    pub held : whole read bytes ends (length cells) ≡ all_accepted zs
        → (take (length ends) (stored zs cells) ≡ zs) × (drop (length ends) (stored zs cells) ≡ drop (length ends) cells)
        × (length (stored zs cells) ≡ length cells)
    unfolding stored
    held e =
        let q = as_many e in (
          rw (← q.0) (take-append_seam zs _),
          rw (← q.0) (drop-append_seam zs _),
          rw (length-append zs (drop (length zs) cells), length-drop (length zs) cells) (omega (arith, q.0, q.1)),
        )
