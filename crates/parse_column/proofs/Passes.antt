-- What one reading of the texts finds is what the whole column answers. Assumes nothing.
use mathlib.Core.Path.{◌≡◌, refl, sym, ap, ◌∙◌}
use mathlib.Core.Bool.{true, false}
use mathlib.Core.List.{List, [], ◌∷◌, ◌++◌}
use Rattle.std.specs.Prelude.{Option, None, Some}
use Prim.Native.Nat.{ℕ, suc, ◌+◌, ◌≤◌, ◌<◌}
use native.Mathlib.Nat.{add-zero, zero-add}
use native.Mathlib.Omega.{arith}
use lib.IntN.{ℤ}
use lib.ListN.{length, take, drop, set, length-set, take-append-drop}
use lib.Seq.{take-suc-set, drop-set-lt, append_snoc}
use borrow.Author.Tests.{le-leb, lt-leb}
use Rattle.text.proofs.Bools.{and_false}
use Rattle.text.proofs.Logic.{none_some}
use Rattle.refusal.specs.Outcome.{Outcome, accepted, refused}
use Rattle.whole_column.specs.Answer.{Whole, all_accepted, first_refused, not_read, in_order, cut, behind, on_text, read_all, whole, stored, cells_after}
use Rattle.whole_column.proofs.Cells.{as_many, held}
use Rattle.parse_column.specs.Helpers.{or_later, refused_from, on_value, stored_from}

both : {m n i j : ℕ} → ◌≡◌ {A = Option (ℕ × ℕ)} (Some (m, i)) (Some (n, j)) → (m ≡ n) × (i ≡ j)
both {m} {n} {i} {j} e =
    let q : ◌≡◌ {A = ℕ × ℕ} (m, i) (n, j) = cc in
    (ap (λ (p : ℕ × ℕ). p.0) q, ap (λ (p : ℕ × ℕ). p.1) q)

from_first : (zs cells : List ℤ) → take 0 cells ++ (zs ++ drop (0 + length zs) cells) ≡ stored zs cells
unfolding stored
from_first zs cells = rw (zero-add (length zs)) refl

module _ (read : List ℕ → Outcome ℤ) where
  -- no text is refused: each has a value, and it is stored in its cell
  record AllRead (i : ℕ) (texts : List (List ℕ)) : Type 0 where
    values : List ℤ
    answer : read_all read texts ≡ all_accepted values
    cells_hold : (cells : List ℤ) → i + length values ≤ length cells → stored_from read i texts cells ≡ take i cells ++ (values ++ drop (i + length values) cells)

  -- the text of number j, counted from i, is the first refused one
  record OneRefused (i : ℕ) (texts : List (List ℕ)) (n j : ℕ) : Type 0 where
    index : ℕ
    counted : j ≡ i + index
    answer : read_all read texts ≡ first_refused n index

  -- a value is stored in front of those of the later texts
  put_first : (i : ℕ) (z : ℤ) (zs cells : List ℤ) → i + suc (length zs) ≤ length cells
      → take (suc i) (set cells i z) ++ (zs ++ drop (suc i + length zs) (set cells i z)) ≡ take i cells ++ ((z ∷ zs) ++ drop (i + suc (length zs)) cells)
  put_first i z zs cells h =
      let k : suc i + length zs ≡ i + suc (length zs) = omega arith in
      rw (take-suc-set cells i z (omega (arith, h)), drop-set-lt (suc i + length zs) cells i z (omega arith), k)
      (append_snoc (take i cells) z (zs ++ drop (i + suc (length zs)) cells))

  read_one : (i : ℕ) (t : List ℕ) (texts : List (List ℕ)) (z : ℤ) → read t ≡ accepted z → AllRead (suc i) texts → AllRead i (t ∷ texts)
  unfolding read_all on_text behind stored_from on_value
  read_one i t texts z e a =
      record {
        values = z ∷ a.values;
        answer = rw (e, a.answer) refl;
        cells_hold = λ cells h. rw e (a.cells_hold (set cells i z) (rw (length-set cells i z) (omega (arith, h))) ∙ put_first i z a.values cells h);
      }

  on_text_lem : (i : ℕ) (t : List ℕ) (texts : List (List ℕ)) (o : Outcome ℤ) → read t ≡ o → (None ≡ refused_from read (suc i) texts → AllRead (suc i) texts)
      → None ≡ or_later o i (refused_from read (suc i) texts) → AllRead i (t ∷ texts)
  unfolding or_later
  on_text_lem i t texts (accepted z) q later e = read_one i t texts z q (later e)
  on_text_lem i t texts (refused n) q later e = none_some e

  all_read : (i : ℕ) (texts : List (List ℕ)) → None ≡ refused_from read i texts → AllRead i texts
  unfolding read_all refused_from stored_from
  all_read i [] e =
      record {
        values = [];
        answer = refl;
        cells_hold = λ cells h. sym (rw (add-zero i) (take-append-drop i cells));
      }
  all_read i (t ∷ texts) e = on_text_lem i t texts (read t) refl (all_read (suc i) texts) e

  at_text : (i : ℕ) (t : List ℕ) (texts : List (List ℕ)) (n j : ℕ) (o : Outcome ℤ) → read t ≡ o
      → (Some (n, j) ≡ refused_from read (suc i) texts → OneRefused (suc i) texts n j)
      → Some (n, j) ≡ or_later o i (refused_from read (suc i) texts) → OneRefused i (t ∷ texts) n j
  unfolding or_later read_all on_text behind
  at_text i t texts n j (accepted z) q later e =
      let r = later e in
      record { index = suc r.index; counted = omega (arith, r.counted); answer = rw (q, r.answer) refl }
  at_text i t texts n j (refused m) q later e =
      let p : m ≡ n = sym (both e).0 in
      record { index = 0; counted = omega (arith, (both e).1); answer = rw (q, p) refl }

  one_refused : (i : ℕ) (texts : List (List ℕ)) (n j : ℕ) → Some (n, j) ≡ refused_from read i texts → OneRefused i texts n j
  unfolding refused_from
  one_refused i [] n j e = none_some (sym e)
  one_refused i (t ∷ texts) n j e = at_text i t texts n j (read t) refl (one_refused (suc i) texts n j) e

  module _ (bytes ends : List ℕ) (cells : List ℤ) (ordered : in_order (length bytes) 0 ends ≡ true) (room : length ends ≤ length cells) where
    answers : {w : Whole} → read_all read (cut bytes 0 ends) ≡ w → whole read bytes ends (length cells) ≡ w
    unfolding whole
    answers e = rw (ordered, le-leb (length ends) (length cells) room) e

    -- the answer and the cells, of texts that are all accepted
    pub accepted_all : (after : List ℤ) → None ≡ refused_from read 0 (cut bytes 0 ends) → after ≡ stored_from read 0 (cut bytes 0 ends) cells
        → (all_accepted (take (length ends) after) ≡ whole read bytes ends (length cells)) × (after ≡ cells_after (whole read bytes ends (length cells)) cells)
    unfolding stored cells_after
    accepted_all after e q =
        let a = all_read 0 (cut bytes 0 ends) e in
        let w = answers a.answer in
        let h = held read bytes ends cells a.values w in
        let m = as_many read bytes ends cells a.values w in
        let s : after ≡ stored a.values cells = q ∙ a.cells_hold cells (omega (arith, m.0, m.1)) ∙ from_first a.values cells in
        (ap all_accepted (ap (take (length ends)) s ∙ h.0) ∙ sym w, s ∙ ap (λ (x : Whole). cells_after x cells) (sym w))

    -- and of texts of which one is refused
    pub refused_one : (n j : ℕ) → Some (n, j) ≡ refused_from read 0 (cut bytes 0 ends)
        → (first_refused n j ≡ whole read bytes ends (length cells)) × (cells ≡ cells_after (whole read bytes ends (length cells)) cells)
    unfolding cells_after
    refused_one n j e =
        let r = one_refused 0 (cut bytes 0 ends) n j e in
        let w = answers r.answer in
        (ap (first_refused n) (r.counted ∙ zero-add r.index) ∙ sym w, ap (λ (x : Whole). cells_after x cells) (sym w))

  module _ (bytes ends : List ℕ) (cells : List ℤ) where
    -- no text is read, and the cells stay as they were
    abbrev pub NoneRead : Type 0
    NoneRead = (not_read 13 ≡ whole read bytes ends (length cells)) × (cells ≡ cells_after (whole read bytes ends (length cells)) cells)

    pub out_of_order : in_order (length bytes) 0 ends ≡ false → NoneRead
    unfolding whole cells_after
    out_of_order e = rw e (refl, refl)

    pub too_few_cells : length cells < length ends → NoneRead
    unfolding whole cells_after
    too_few_cells h = rw (lt-leb (length ends) (length cells) h, and_false (in_order (length bytes) 0 ends)) (refl, refl)

-- why no text is read
pub ruleset unread = (out_of_order, too_few_cells)
