-- Ends in order, one end after another. Assumes nothing.
use mathlib.Core.Path.{◌≡◌, refl, sym, ap, ◌∙◌}
use mathlib.Core.Bool.{true, false}
use mathlib.Core.List.{List, ◌∷◌}
use Prim.Native.Nat.{ℕ, ◌+◌, ◌≤◌, ◌<◌}
use native.Mathlib.Numerals.{add-one}
use lib.ListN.{length, get_or, drop, drop_of_length-le}
use lib.Seq.{drop-cons}
use Rattle.text.proofs.Bools.{within_yes, within_under, within_over}
use Rattle.whole_column.specs.Answer.{in_order}
use Rattle.whole_column.proofs.Agreement.{in_order_lem}

-- the end at a place, and those behind it
pub next_end : (ends : List ℕ) (i : ℕ) → i < length ends → drop i ends ≡ get_or ends i 0 ∷ drop (i + 1) ends
next_end ends i h = rw add-one (drop-cons ends i 0 h)

module _ (n from : ℕ) (ends : List ℕ) (i : ℕ) (h : i < length ends) where
  pub falls : get_or ends i 0 < from → in_order n from (drop i ends) ≡ false
  unfolding in_order
  falls k = rw (next_end ends i h, within_under from (get_or ends i 0) n k) refl

  pub passes : n < get_or ends i 0 → in_order n from (drop i ends) ≡ false
  unfolding in_order
  passes k = rw (next_end ends i h, within_over from (get_or ends i 0) n k) refl

  pub goes_on : from ≤ get_or ends i 0 → get_or ends i 0 ≤ n → in_order n from (drop i ends) ≡ in_order n (get_or ends i 0) (drop (i + 1) ends)
  unfolding in_order
  goes_on k l = rw (next_end ends i h, within_yes from (get_or ends i 0) n k l) refl

pub no_end : (n from : ℕ) (ends : List ℕ) (i : ℕ) → length ends ≤ i → in_order n from (drop i ends) ≡ true
unfolding in_order
no_end n from ends i h = rw (drop_of_length-le ends {i = i} h) refl

-- of ends that are in order from here on: the next does not fall nor pass, and those behind it are in order
pub next : (n from : ℕ) (ends : List ℕ) (i : ℕ) → i < length ends → in_order n from (drop i ends) ≡ true
    → ((from ≤ get_or ends i 0) × (get_or ends i 0 ≤ n)) × (in_order n (get_or ends i 0) (drop (i + 1) ends) ≡ true)
next n from ends i h e = in_order_lem n from (get_or ends i 0) (drop (i + 1) ends) (ap (in_order n from) (sym (next_end ends i h)) ∙ e)

-- what decides of the ends, one after another
pub ruleset ends_seen = (falls, passes, goes_on, no_end)
