-- One reading of the texts: a turn of it, its end, and what is found when all are read. Assumes nothing.
use mathlib.Core.Path.{◌≡◌, refl}
use mathlib.Core.List.{List, ◌∷◌}
use Rattle.std.specs.Prelude.{None, Some}
use Prim.Native.Nat.{ℕ, ◌+◌, ◌-◌, ◌≤◌, ◌<◌}
use native.Mathlib.Numerals.{add-one}
use lib.IntN.{ℤ}
use lib.ListN.{length, get_or, take, drop, set, drop_of_length-le}
use Rattle.refusal.specs.Outcome.{Outcome, accepted, refused}
use Rattle.whole_column.specs.Answer.{cut}
use Rattle.parse_column.specs.Helpers.{or_later, refused_from, on_value, stored_from}
use Rattle.parse_column.proofs.Order.{next_end, next}

module _ (read : List ℕ → Outcome ℤ) (bytes ends : List ℕ) (from i : ℕ) where
  abbrev pub rest_of : List (List ℕ)
  rest_of = cut bytes from (drop i ends)

  module _ (h : i < length ends) where
    abbrev pub text_at : List ℕ
    text_at = take (get_or ends i 0 - from) (drop from bytes)

    abbrev pub behind_it : List (List ℕ)
    behind_it = cut bytes (get_or ends i 0) (drop (i + 1) ends)

    this_text : rest_of ≡ text_at ∷ behind_it
    unfolding cut
    this_text = rw (next_end ends i h) refl

    pub goes_on : {z : ℤ} → accepted z ≡ read text_at → refused_from read i rest_of ≡ refused_from read (i + 1) behind_it
    unfolding refused_from or_later
    goes_on e = rw (this_text, ← e, add-one) refl

    pub stops : {n : ℕ} → refused n ≡ read text_at → refused_from read i rest_of ≡ Some (n, i)
    unfolding refused_from or_later
    stops e = rw (this_text, ← e) refl

    pub stores : {z : ℤ} (cells : List ℤ) → accepted z ≡ read text_at → stored_from read i rest_of cells ≡ stored_from read (i + 1) behind_it (set cells i z)
    unfolding stored_from on_value
    stores cells e = rw (this_text, ← e, add-one) refl

    pub keeps : {n : ℕ} (cells : List ℤ) → refused n ≡ read text_at → stored_from read i rest_of cells ≡ cells
    unfolding stored_from on_value
    keeps cells e = rw (this_text, ← e) refl

  pub none_left : length ends ≤ i → refused_from read i rest_of ≡ None
  unfolding refused_from cut
  none_left h = rw (drop_of_length-le ends {i = i} h) refl

  pub none_stored : (cells : List ℤ) → length ends ≤ i → stored_from read i rest_of cells ≡ cells
  unfolding stored_from cut
  none_stored cells h = rw (drop_of_length-le ends {i = i} h) refl

-- all that a reading of the texts goes by
pub ruleset turns = (next, goes_on, stops, stores, keeps, none_left, none_stored)
