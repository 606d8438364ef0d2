-- THE PLACE of a refused interval text: each text has exactly one, that which is computed (`one_place`). Assumes nothing.
use mathlib.Core.Path.{◌≡◌, refl, sym, ap, ◌∙◌}
use mathlib.Core.Logic.{◌⊎◌, ⊎_elim, ◌↔◌}
use mathlib.Core.List.{List, [], ◌∷◌, ◌++◌}
use Rattle.std.specs.Prelude.{Option, None, Some}
use Prim.Native.Nat.{ℕ, zero, suc, ◌+◌, ◌≤◌, ◌<◌}
use native.Mathlib.Nat.{zero-add}
use native.Mathlib.Omega.{arith}
use lib.ListN.{length, drop, length-append, length-drop}
use Rattle.text.proofs.Bools.{fails}
use Rattle.text.proofs.Logic.{none_some}
use Rattle.utf8.specs.Utf8.{utf8}
use Rattle.utf8.proofs.Utf8Agrees as Utf8Agrees
use Rattle.refusal.specs.Outcome.{Outcome, accepted, refused}
use Rattle.unit.specs.declared.IntervalUnit.{IntervalUnit}
use Rattle.component.specs.Grammar.{Component, Divides}
use Rattle.component.specs.Division.{Step, bad, stop, go, step, before, divide}
use Rattle.component.proofs.Steps.{OneMore, at_bad, at_last, at_more}
use Rattle.component.proofs.Agreement.{agrees, well_formed}
use Rattle.rule.specs.Contribution.{Counts, zeros}
use Rattle.rule.specs.Meaning.{Repeats, Means, totalled, not_utf8, undivided, repeated, unfit}
use Rattle.rule.proofs.Demand3.{Amounts, amounts, answered}
use Rattle.place.specs.Pieces.{Piece, Words, last_word, word_then_more, Pair, Pairs, no_word, parted, two_words, one_word, Splits, components}
use Rattle.place.specs.Place.{FirstBad, bad_amount, bad_unit_piece, later, repeats_at, unfit_at, Place, of_value, of_1, of_8, of_9, of_10}
use Rattle.place.specs.Where.{pairs_from, or_later, first_bad, first_repeat, none_seen, first_unfit, first_of, place}
use Rattle.place.proofs.Cutting.{splits}
use Rattle.place.proofs.Turning.{Next, on_bad, on_stop, on_go}
use Rattle.place.proofs.Firsts.{bad_computed, bad_found, repeat_computed, no_repeat, repeat_found, unfit_computed, no_unfit, unfit_found}

-- ---- the division of a text, by its pieces

-- components, where no piece is bad
unfoldable where_good : Option ℕ → List Component → Option (List Component)
where_good None d = Some d
where_good (Some p) d = None

before_good : (c : Component) (o : Option ℕ) (d : List Component) → before c (where_good o d) ≡ where_good o (c ∷ d)
unfolding before where_good
before_good c None d = refl
before_good c (Some p) d = refl

module _ (n : ℕ) where
  -- the division that the pairs of a text tell
  unfoldable of_pairs : List Pair → Option (List Component)
  of_pairs d = where_good (first_bad n d) (components d)

  -- a first pair that is good
  good_next : {p : ℕ} {t : List ℕ} {c : Component} {d : List Pair} → Next n p t c d → of_pairs (pairs_from p t) ≡ before c (of_pairs d)
  unfolding of_pairs components
  good_next {c = c} {d} N = rw (N.are, N.both.good d, N.component_is) (sym (before_good c (first_bad n d) (components d)))

  by_pieces : (j p : ℕ) (t : List ℕ) → length t < j → divide n t ≡ of_pairs (pairs_from p t)
  unfolding of_pairs where_good components first_bad before
  by_pieces zero p t h = absurd (omega arith)
  by_pieces (suc j) p t h = from (step n t) refl (by_pieces j)
    where
      from : (s : Step) → step n t ≡ s → ((p : ℕ) (t : List ℕ) → length t < j → divide n t ≡ of_pairs (pairs_from p t)) → divide n t ≡ of_pairs (pairs_from p t)
      from bad e rest = at_bad n t 0 e ∙ rw (on_bad n p t e)
      from (stop c) e rest = at_last n t 0 e ∙ sym (good_next (on_stop n p t e))
      from (go c k) e rest =
          let M : OneMore n t 0 c k = rw zero-add at (at_more n t 0 e) in
          M.divided ∙
          ap (before c) (rest (p + k) (drop k t) (omega (arith, h, M.further, M.inside, length-drop k t))) ∙
          sym (good_next (on_go n p t e))

-- a division's components are the pairs, and a text is divided exactly where all its pieces are good
pub divided : (n : ℕ) (t : List ℕ) (d : List Component) → Divides n t d ↔ ((first_bad n (pairs_from 0 t) ≡ None) × (components (pairs_from 0 t) ≡ d))
unfolding of_pairs where_good
divided n t d = (λ D. from (first_bad n (pairs_from 0 t)) refl ((agrees n t d).0 D), λ e. (agrees n t d).1 (computed ∙ rw (e.0, e.1)))
  where
    computed : divide n t ≡ of_pairs n (pairs_from 0 t)
    computed = by_pieces n (suc (length t)) 0 t (omega arith)

    from : (o : Option ℕ) → first_bad n (pairs_from 0 t) ≡ o → divide n t ≡ Some d → (first_bad n (pairs_from 0 t) ≡ None) × (components (pairs_from 0 t) ≡ d)
    from None q e = let c : Some (components (pairs_from 0 t)) ≡ divide n t = sym (computed ∙ rw q) in (q, cc)
    from (Some p) q e = none_some (sym (computed ∙ rw q) ∙ e)

-- ---- THE PLACE

module _ (n : ℕ) (u : IntervalUnit) (t : List ℕ) where
  abbrev d : List Pair
  d = pairs_from 0 t

  -- a division is that of the pairs
  module _ {l : List Component} (D : Divides n t l) where
    own : l ≡ components d
    own = sym ((divided n t l).0 D).1

    on_division_lem : place n u t ≡ or_later (first_repeat u none_seen d) (first_unfit n u zeros d)
    unfolding place first_of or_later
    on_division_lem = rw ((Utf8Agrees.agrees t).0 (well_formed D), ((divided n t l).0 D).0)

    once : (Repeats u l → ⊥) → first_repeat u none_seen d ≡ None
    once f = no_repeat u d (rw own at f)

    with_amounts : Amounts n (components d)
    with_amounts = rw own at (amounts D)

  -- the place is the computed one
  computed : {o : Option ℕ} → Place n u t o → place n u t ≡ o
  unfolding place first_of or_later
  computed (of_value (totalled D f R)) = on_division_lem D ∙ rw (once D f, no_unfit n u d (rw (own D) at R))
  computed (of_1 (not_utf8 f)) = rw (fails (utf8 t) (Utf8Agrees.agrees t).1 f)
  computed (of_8 {d = e} (undivided w f) S F) = rw ((Utf8Agrees.agrees t).0 w, (splits 0 t e).0 S, bad_computed n F)
  computed (of_9 {d = e} (repeated D r) S F) = on_division_lem D ∙ rw ((splits 0 t e).0 S, repeat_computed u F)
  computed (of_10 {d = e} (unfit D f g) S F) =
      let q = (splits 0 t e).0 S in
      on_division_lem D ∙ rw (once D f, q, unfit_computed n u (rw q at (with_amounts D)) F)

  -- 8, 9 and 10 have one
  pairs_are : Splits 0 t d
  pairs_are = (splits 0 t d).1 refl

  at_8 : Means n u t (refused 8) → (p : ℕ) × Place n u t (Some p)
  at_8 (undivided w f) = from (first_bad n d) refl
    where
      from : (o : Option ℕ) → first_bad n d ≡ o → (p : ℕ) × Place n u t (Some p)
      from None q = absurd (f (components d) ((divided n t (components d)).1 (q, refl)))
      from (Some p) q = (p, of_8 (undivided w f) pairs_are (bad_found n d q))

  at_9 : Means n u t (refused 9) → (p : ℕ) × Place n u t (Some p)
  at_9 (repeated D r) = let F = repeat_found u d (rw (own D) at r) in (F.0, of_9 (repeated D r) pairs_are F.1)

  at_10 : Means n u t (refused 10) → (p : ℕ) × Place n u t (Some p)
  at_10 (unfit D f g) =
      let F = unfit_found n u d (with_amounts D) (rw (own D) at g) in
      (F.0, of_10 (unfit D f g) pairs_are F.1)

  -- so every answer has one, or none
  some_place : {r : Outcome Counts} → Means n u t r → (o : Option ℕ) × Place n u t o
  some_place (totalled D f R) = (None, of_value (totalled D f R))
  some_place (not_utf8 f) = (None, of_1 (not_utf8 f))
  some_place (undivided w f) = let P = at_8 (undivided w f) in (Some P.0, P.1)
  some_place (repeated D r) = let P = at_9 (repeated D r) in (Some P.0, P.1)
  some_place (unfit D f g) = let P = at_10 (unfit D f g) in (Some P.0, P.1)

  -- a place is the text's exactly where it is the computed one
  pub one_place : (o : Option ℕ) → Place n u t o ↔ (place n u t ≡ o)
  one_place o = let P = some_place (answered n u t) in (computed, λ e. rw (sym e ∙ computed P.1) P.1)

  -- 8, 9 and 10 always have a place, and nothing else has one
  pub has_place : (k : ℕ) → Means n u t (refused k) → (k ≡ 8) ⊎ ((k ≡ 9) ⊎ (k ≡ 10)) → (p : ℕ) × (place n u t ≡ Some p)
  has_place k M h =
      ⊎_elim
      (λ e. from (at_8 (rw e at M)))
      (λ g. ⊎_elim (λ e. from (at_9 (rw e at M))) (λ e. from (at_10 (rw e at M))) g)
      h
    where
      from : (p : ℕ) × Place n u t (Some p) → (p : ℕ) × (place n u t ≡ Some p)
      from P = (P.0, computed P.1)

  pub no_place : {e : Counts} → Means n u t (accepted e) → place n u t ≡ None
  no_place M = computed (of_value M)

  pub no_place_1 : Means n u t (refused 1) → place n u t ≡ None
  no_place_1 M = computed (of_1 M)

-- the readers: a place that is computed is the text's
pub placed : {n : ℕ} {u : IntervalUnit} {t : List ℕ} {o : Option ℕ} → o ≡ place n u t → Place n u t o
placed {n} {u} {t} {o} e = (one_place n u t o).1 (sym e)

-- ---- a place is a number of bytes from 0 to the text's length

module _ (m : ℕ) where
  -- pieces end no further than m
  unfoldable Ending : List Piece → Type 0
  Ending [] = Unit
  Ending (w ∷ l) = (w.at + length w.bytes ≤ m) × Ending l

  words_end : {p : ℕ} {t : List ℕ} {l : List Piece} → Words p t l → p + length t ≤ m → Ending l
  unfolding Ending
  words_end (last_word U) h = (h, tt)
  words_end (word_then_more {p} {w} {s} {r} U W R) h =
      let a = length-append w (s ++ r) in
      let b = length-append s r in
      (omega (arith, h, a), words_end R (omega (arith, h, a, b)))

  -- a unit piece, and pairs, begin no further than m
  unfoldable UnitIn : Option Piece → Type 0
  UnitIn None = Unit
  UnitIn (Some w) = w.at ≤ m

  unfoldable PairsIn : List Pair → Type 0
  PairsIn [] = Unit
  PairsIn (c ∷ d) = (c.amount.at ≤ m) × UnitIn c.unit × PairsIn d

  pairs_begin : {l : List Piece} {d : List Pair} → Pairs l d → Ending l → PairsIn d
  unfolding Ending UnitIn PairsIn
  pairs_begin no_word E = tt
  pairs_begin (parted {b = b} {a} {u} A B P) E =
      let h = E.0 in
      (omega (arith, h), omega (arith, h, length-append a (b ∷ u)), pairs_begin P E.1)
  pairs_begin (two_words A P) E = let h = E.0 in let g = E.1.0 in (omega (arith, h), omega (arith, g), pairs_begin P E.1.1)
  pairs_begin (one_word A) E = let h = E.0 in (omega (arith, h), tt, tt)

  -- and so what is first in them
  bad_begins : {n : ℕ} {d : List Pair} {p : ℕ} → FirstBad n d p → PairsIn d → p ≤ m
  unfolding UnitIn PairsIn
  bad_begins (bad_amount f) I = I.0
  bad_begins (bad_unit_piece A e) I = I.1
  bad_begins (later A U F) I = bad_begins F I.2

  pair_begins : (front : List Pair) (c : Pair) (d : List Pair) → PairsIn (front ++ (c ∷ d)) → c.amount.at ≤ m
  unfolding PairsIn
  pair_begins [] c d I = I.0
  pair_begins (x ∷ front) c d I = pair_begins front c d I.2

  splits_begin : {t : List ℕ} {d : List Pair} → length t ≤ m → Splits 0 t d → PairsIn d
  splits_begin h S = pairs_begin S.pairs_are (words_end S.words_are (omega arith))

  place_begins : {n : ℕ} {u : IntervalUnit} {t : List ℕ} {p : ℕ} → length t ≤ m → Place n u t (Some p) → p ≤ m
  place_begins h (of_8 M S F) = bad_begins F (splits_begin h S)
  place_begins h (of_9 M S (repeats_at front c d f r)) = pair_begins front c d (splits_begin h S)
  place_begins h (of_10 M S (unfit_at front c d R f)) = pair_begins front c d (splits_begin h S)

pub inside : (n : ℕ) (u : IntervalUnit) (t : List ℕ) {p : ℕ} → place n u t ≡ Some p → p ≤ length t
inside n u t {p} e = place_begins (length t) (omega arith) ((one_place n u t (Some p)).1 e)
