-- The pieces that a text begins with, and its division's first step: no component, and the first bad piece is there; a component that ends the text,
-- or one more, and its pieces are good. Assumes nothing.
use mathlib.Core.Path.{◌≡◌, refl, sym, ap, ◌∙◌}
use mathlib.Core.Bool.{Bool, true, false, not}
use mathlib.Core.List.{List, [], ◌∷◌, ◌++◌}
use Rattle.std.specs.Prelude.{None, Some}
use Prim.Native.Nat.{ℕ, zero, suc, ◌+◌, ◌≤◌, ◌<◌}
use native.Mathlib.Nat.{add-zero}
use native.Mathlib.Omega.{arith}
use lib.Dec.{eqb, leb}
use lib.ListN.{length, get_or, take, drop, length-drop, take-append-drop, drop_of_length-le}
use lib.Seq.{length-take-le, take-take, take-add, drop-drop, drop_at}
use borrow.Author.Tests.{eqb-true, eqb-false, eq-eqb, ne_eqb, leb-true, leb-false}
use Rattle.text.proofs.Bools.{by_test, both_ways, fails}
use Rattle.white.specs.WhiteSpace.{white_len}
use Rattle.white.proofs.Characters.{not_white}
use Rattle.unit.specs.Units.{is_unit, word_len}
use Rattle.unit.proofs.Spelling.{unit_first, word_on, word_off, word_end_lem}
use Rattle.unit.proofs.WordLaws.{word_is}
use Rattle.amount.specs.Scan.{amount_len}
use Rattle.component.specs.Grammar.{Component}
use Rattle.component.specs.Division.{Step, bad, stop, go, end_step, unit_step, rest_step, amount_step, step}
use Rattle.component.specs.Fault.{in_amount, piece_len, is_amount, fault}
use Rattle.component.proofs.Agreement.{rest_cons, end_cons}
use Rattle.component.proofs.Faults.{in_range_lem, piece_on, piece_inside, piece_measured, measured_piece, amount_true, fault_first}
use Rattle.amount.proofs.AmountLaws.{measured}
use Rattle.place.specs.Pieces.{Piece, piece, Pair, pair, bytes_of, component_of}
use Rattle.place.specs.Where.{words, is_whole, parted_at, pairs_of, pairs_from, or_later, bad_unit, first_bad}
use Rattle.place.proofs.Cutting.{words_last, words_more, by_parted}

-- ---- the amount piece of a text and of its word

-- a byte of an amount piece is no white space
not_white_in : (b : ℕ) (t : List ℕ) → in_amount b ≡ true → white_len (b ∷ t) ≡ 0
not_white_in b t e = let r = in_range_lem b e in not_white b t (omega arith) (omega arith)

-- a word goes on behind its amount piece
word_piece : (t : List ℕ) → word_len t ≡ piece_len t + word_len (drop (piece_len t) t)
unfolding word_len piece_len
word_piece [] = omega arith
word_piece (b ∷ t) =
    by_test (in_amount b)
    (λ e. rw (not_white_in b t e, e) (omega (arith, word_piece t)))
    (λ e. rw e (omega arith))

-- the amount piece of a text that is cut off behind it
piece_cut : (m : ℕ) (t : List ℕ) → piece_len t ≤ m → piece_len (take m t) ≡ piece_len t
unfolding piece_len
piece_cut zero [] h = refl
piece_cut zero (b ∷ t) h = by_test (in_amount b) (λ e. let k : piece_len (b ∷ t) ≡ suc (piece_len t) = piece_on b t e in absurd (omega arith)) (λ e. rw e)
piece_cut (suc m) [] h = refl
piece_cut (suc m) (b ∷ t) h =
    by_test (in_amount b)
    (λ e. let k : piece_len (b ∷ t) ≡ suc (piece_len t) = piece_on b t e in rw (e, piece_cut m t (omega arith)))
    (λ e. rw e)

-- ---- words as pairs

pairs_alone : (w : Piece) → is_whole w ≡ true → pairs_of (w ∷ []) ≡ pair w false None ∷ []
unfolding pairs_of
pairs_alone w e = rw e

pairs_whole : (w u : Piece) (l : List Piece) → is_whole w ≡ true → pairs_of (w ∷ u ∷ l) ≡ pair w true (Some u) ∷ pairs_of l
unfolding pairs_of
pairs_whole w u l e = rw e

-- ---- the pairs of a text t from the place p on: k bytes are its amount piece

module _ (p : ℕ) (t : List ℕ) where
  abbrev k : ℕ
  k = piece_len t

  k_long : length (take k t) ≡ k
  k_long = length-take-le k t (piece_inside t)

  whole_piece : is_whole (piece p (take k t)) ≡ true
  unfolding is_whole
  whole_piece = eq-eqb (piece_len (take k t)) (length (take k t)) (omega (arith, piece_cut k t (omega arith), k_long))

  -- nothing follows it
  alone : length t ≤ k → pairs_from p t ≡ pair (piece p (take k t)) false None ∷ []
  unfolding pairs_from
  alone h =
      let l : word_len t ≡ k = omega (arith, word_piece t, word_end_lem t k h) in
      rw (words_last p t (omega arith), l) (pairs_alone (piece p (take k t)) whole_piece)

  -- white space of w bytes, perhaps none, follows it up to f, and a word up to g
  module _ (h : k < length t) (w f g : ℕ) (W : w ≡ white_len (drop k t)) (F : f ≡ k + w) (G : g ≡ f + word_len (drop f t)) where
    abbrev This : Pair
    This = pair (piece p (take k t)) (not (eqb w 0)) (Some (piece (p + f) (take (word_len (drop f t)) (drop f t))))

    -- the pairs behind it
    abbrev Rest : List Pair → Type 0
    Rest d = pairs_from p t ≡ This ∷ d

    -- apart
    module _ (apart : 0 < w) where
      spaced : not (eqb w 0) ≡ true
      spaced = rw (ne_eqb w 0 (λ e. omega arith))

      first_word : word_len t ≡ k
      first_word = omega (arith, word_piece t, word_off t k (omega arith))

      two : words p t ≡ piece p (take k t) ∷ words (p + f) (drop f t)
      two = words_more p t (omega (arith, first_word)) ∙ rw (first_word, ← W, ← F)

      apart_last : length t ≤ g → Rest []
      unfolding pairs_from pairs_of
      apart_last l =
          rw (two, words_last (p + f) (drop f t) (omega (arith, length-drop f t)), spaced)
          (pairs_whole (piece p (take k t)) (piece (p + f) (take (word_len (drop f t)) (drop f t))) [] whole_piece)

      apart_more : g < length t → Rest (pairs_from (p + (g + white_len (drop g t))) (drop (g + white_len (drop g t)) t))
      unfolding pairs_from
      apart_more l =
          let d : drop (word_len (drop f t)) (drop f t) ≡ drop g t = drop-drop (word_len (drop f t)) f t ∙ rw (← G) in
          let i : f + (word_len (drop f t) + white_len (drop g t)) ≡ g + white_len (drop g t) = omega arith in
          let e : drop (word_len (drop f t) + white_len (drop g t)) (drop f t) ≡ drop (g + white_len (drop g t)) t = drop-drop (word_len (drop f t) + white_len (drop g t)) f t ∙ rw i in
          let q : (p + f) + (word_len (drop f t) + white_len (drop g t)) ≡ p + (g + white_len (drop g t)) = omega arith in
          rw (two, words_more (p + f) (drop f t) (omega (arith, length-drop f t)), d, e, q, spaced)
          (pairs_whole (piece p (take k t)) (piece (p + f) (take (word_len (drop f t)) (drop f t))) (words (p + (g + white_len (drop g t))) (drop (g + white_len (drop g t)) t)) whole_piece)

    -- glued
    module _ (glued : w ≡ 0) where
      unspaced : not (eqb w 0) ≡ false
      unspaced = rw (eq-eqb w 0 glued)

      f_is : f ≡ k
      f_is = omega arith

      some_word : 0 < word_len (drop k t)
      some_word = omega (arith, word_on t k h (sym W ∙ glued))

      glued_word : word_len t ≡ g
      glued_word = omega (arith, word_piece t, ap (λ (x : ℕ). word_len (drop x t)) f_is)

      g_inside : g ≤ length t
      g_inside = omega (arith, glued_word, (word_is t).1)

      k_of : piece_len (take g t) ≡ k
      k_of = piece_cut g t (omega arith)

      not_whole : is_whole (piece p (take g t)) ≡ false
      unfolding is_whole
      not_whole =
          ne_eqb (piece_len (take g t)) (length (take g t))
          (λ e. omega (arith, k_of, length-take-le g t g_inside, some_word, ap (λ (x : ℕ). word_len (drop x t)) f_is))

      parted : parted_at k (piece p (take g t)) ≡ This
      unfolding parted_at
      parted =
          let i : g ≡ k + word_len (drop k t) = omega (arith, ap (λ (x : ℕ). word_len (drop x t)) f_is) in
          let a : take g t ≡ take k t ++ take (word_len (drop k t)) (drop k t) = rw i (take-add k (word_len (drop k t)) t) in
          let b : drop k (take g t) ≡ take (word_len (drop k t)) (drop k t) = rw a (drop_at (take k t) (take (word_len (drop k t)) (drop k t)) k k_long) in
          rw (take-take k g t (omega arith), b, unspaced, f_is)

      glued_last : length t ≤ g → Rest []
      unfolding pairs_from pairs_of
      glued_last l =
          rw (words_last p t (omega (arith, glued_word)), glued_word)
          (by_parted (piece p (take g t)) [] not_whole ∙ rw (k_of, parted))

      glued_more : g < length t → Rest (pairs_from (p + (g + white_len (drop g t))) (drop (g + white_len (drop g t)) t))
      unfolding pairs_from
      glued_more l =
          rw (words_more p t (omega (arith, glued_word)), glued_word)
          (by_parted (piece p (take g t)) (words (p + (g + white_len (drop g t))) (drop (g + white_len (drop g t)) t)) not_whole ∙ rw (k_of, parted))

    with_last : length t ≤ g → Rest []
    with_last l = by_test (eqb w 0) (λ e. glued_last (eqb-true w 0 e) l) (λ e. apart_last (omega (arith, eqb-false w 0 e)) l)

    with_more : g < length t → Rest (pairs_from (p + (g + white_len (drop g t))) (drop (g + white_len (drop g t)) t))
    with_more l = by_test (eqb w 0) (λ e. glued_more (eqb-true w 0 e) l) (λ e. apart_more (omega (arith, eqb-false w 0 e)) l)

-- ---- a step of the division

-- a pair at the place p whose pieces are good
pub record Good (n p : ℕ) (q : Pair) : Type 0 where
  pub begins : q.amount.at ≡ p
  pub good : (d : List Pair) → first_bad n (q ∷ d) ≡ first_bad n d

-- what a step says of the pairs of a text t that begins at p
pub data Turn (n p : ℕ) (t : List ℕ) : Step → Type 0 where
  turn_bad : first_bad n (pairs_from p t) ≡ Some (p + fault n t) → Turn n p t bad
  turn_stop : (q : Pair) → pairs_from p t ≡ q ∷ [] → Good n p q → Turn n p t (stop (component_of q))
  turn_go : (q : Pair) (k : ℕ) → pairs_from p t ≡ q ∷ pairs_from (p + k) (drop k t) → Good n p q → Turn n p t (go (component_of q) k)

-- the first pair's amount or unit is bad
bad_first : (n : ℕ) (q : Pair) (d : List Pair) → is_amount n q.amount.bytes ≡ false → first_bad n (q ∷ d) ≡ Some q.amount.at
unfolding first_bad
bad_first n q d e = rw e

bad_second : (n : ℕ) (a : Piece) (s : Bool) (w : Piece) (d : List Pair) → is_amount n a.bytes ≡ true → is_unit w.bytes ≡ false → first_bad n (pair a s (Some w) ∷ d) ≡ Some w.at
unfolding first_bad bad_unit or_later
bad_second n a s w d e f = rw (e, f)

good_both : (n : ℕ) (a : Piece) (s : Bool) (w : Piece) (d : List Pair) → is_amount n a.bytes ≡ true → is_unit w.bytes ≡ true → first_bad n (pair a s (Some w) ∷ d) ≡ first_bad n d
unfolding first_bad bad_unit or_later
good_both n a s w d e f = rw (e, f)

good_alone : (n : ℕ) (a : Piece) (s : Bool) (d : List Pair) → is_amount n a.bytes ≡ true → first_bad n (pair a s None ∷ d) ≡ first_bad n d
unfolding first_bad bad_unit or_later
good_alone n a s d e = rw e

-- the first pair of a text has the text's amount piece
record Begins (p : ℕ) (t : List ℕ) : Type 0 where
  this : Pair
  others : List Pair
  are : pairs_from p t ≡ this ∷ others
  amount_is : this.amount ≡ piece p (take (piece_len t) t)

begins : (p : ℕ) (t : List ℕ) → Begins p t
begins p t =
    by_test (leb (length t) (piece_len t))
    (λ e. record { this = _; others = _; are = alone p t (leb-true (length t) (piece_len t) e); amount_is = refl })
    (λ e.
    let h = leb-false (length t) (piece_len t) e in
    let w : ℕ = white_len (drop (piece_len t) t) in
    let f : ℕ = piece_len t + w in
    let g : ℕ = f + word_len (drop f t) in
    by_test (leb (length t) g)
    (λ l. record { this = _; others = _; are = with_last p t h w f g refl refl refl (leb-true (length t) g l); amount_is = refl })
    (λ l. record { this = _; others = _; are = with_more p t h w f g refl refl refl (leb-false (length t) g l); amount_is = refl }))

module _ (n p : ℕ) (t : List ℕ) where
  -- the amount piece is none: there is no step
  module _ (e : is_amount n (take (piece_len t) t) ≡ false) where
    -- nor is there where an amount is read and the piece goes on behind it, since no unit begins so
    goes_on : (m : ℕ) → amount_len n t ≡ suc m → in_amount (get_or (drop (suc m) t) 0 0) ≡ true → step n t ≡ bad
    unfolding step amount_step unit_step end_step
    goes_on m h i =
        let r : List ℕ = drop (suc m) t in
        let b = in_range_lem (get_or r 0 0) i in
        let s : 0 < length r = from r b in
        let z : white_len r ≡ 0 = white_none r s i in
        let u : is_unit (take (word_len r) r) ≡ false = fails (is_unit (take (word_len r) r)) (λ U. rw (take-append-drop (word_len r) r) at (unit_first (take (word_len r) r) (drop (word_len r) r) U)) (λ l. omega (arith, l, b)) in
        rw h (rest_cons (take (suc m) t) (suc m) r s ∙ rw (z, add-zero, u))
      where
        from : (r : List ℕ) → (0x2C < get_or r 0 0) × (get_or r 0 0 < 0x3A) → 0 < length r
        from [] b = absurd (omega (arith, b))
        from (c ∷ r) b = omega arith

        white_none : (r : List ℕ) → 0 < length r → in_amount (get_or r 0 0) ≡ true → white_len r ≡ 0
        white_none [] l i = absurd (omega arith)
        white_none (c ∷ r) l i = not_white_in c r i

    no_step : step n t ≡ bad
    unfolding step amount_step
    no_step = from (amount_len n t) refl
      where
        from : (m : ℕ) → amount_len n t ≡ m → step n t ≡ bad
        from zero h = rw h
        from (suc m) h =
            by_test (in_amount (get_or (drop (suc m) t) 0 0))
            (λ i. goes_on m h i)
            (λ i.
            let q : amount_len n t ≡ piece_len t = sym (measured_piece n t (omega arith) (rw h i)) in
            both_ways (is_amount n (take (piece_len t) t)) e (amount_true n (take (piece_len t) t) (rw q at (measured n t (omega arith)))))

    turn_none : Turn n p t (step n t)
    turn_none =
        let B = begins p t in
        let a : is_amount n B.this.amount.bytes ≡ false = rw B.amount_is e in
        let q : p ≡ p + fault n t = omega (arith, fault_first n t e) in
        rw no_step (turn_bad (rw (B.are, ← q) (bad_first n B.this B.others a ∙ rw B.amount_is)))

  -- it is one
  module _ (e : is_amount n (take (piece_len t) t) ≡ true) where
    after_amount : step n t ≡ rest_step (take (piece_len t) t) (piece_len t) (drop (piece_len t) t)
    unfolding step amount_step
    after_amount = from (piece_len t) refl (piece_measured n t e).0 (piece_measured n t e).1
      where
        from : (k : ℕ) → piece_len t ≡ k → amount_len n t ≡ k → 0 < k → step n t ≡ rest_step (take k t) k (drop k t)
        from zero q h l = absurd (omega arith)
        from (suc k) q h l = rw h

    -- nothing follows
    turn_alone : length t ≤ piece_len t → Turn n p t (step n t)
    unfolding rest_step component_of bytes_of
    turn_alone h =
        let q : Pair = pair (piece p (take (piece_len t) t)) false None in
        let s : step n t ≡ stop (component_of q) = after_amount ∙ rw (drop_of_length-le t h) in
        rw s (turn_stop q (alone p t h) (record { begins = refl; good = λ d. good_alone n (piece p (take (piece_len t) t)) false d e }))

    module _ (h : piece_len t < length t) (w f g : ℕ) (W : w ≡ white_len (drop (piece_len t) t)) (F : f ≡ piece_len t + w) (G : g ≡ f + word_len (drop f t)) where
      abbrev word : List ℕ
      word = take (word_len (drop f t)) (drop f t)

      abbrev q : Pair
      q = pair (piece p (take (piece_len t) t)) (not (eqb w 0)) (Some (piece (p + f) word))

      after_word : step n t ≡ end_step (is_unit word) (component_of q) g (drop g t)
      unfolding unit_step component_of bytes_of
      after_word =
          after_amount ∙
          rest_cons (take (piece_len t) t) (piece_len t) (drop (piece_len t) t) (omega (arith, length-drop (piece_len t) t)) ∙
          rw (← W, drop-drop w (piece_len t) t, ← F, drop-drop (word_len (drop f t)) f t, ← G)

      faulty : fault n t ≡ f
      unfolding fault
      faulty = rw (e, ← W, F)

      ends : (d : List Pair) → pairs_from p t ≡ q ∷ d → is_unit word ≡ false → Turn n p t (step n t)
      unfolding end_step
      ends d P U =
          let s : step n t ≡ bad = after_word ∙ rw U in
          rw s (turn_bad (rw (P, faulty) (bad_second n (piece p (take (piece_len t) t)) (not (eqb w 0)) (piece (p + f) word) d e U)))

      both : is_unit word ≡ true → Good n p q
      both U = record { begins = refl; good = λ d. good_both n (piece p (take (piece_len t) t)) (not (eqb w 0)) (piece (p + f) word) d e U }

      last : length t ≤ g → Turn n p t (step n t)
      unfolding end_step
      last l =
          by_test (is_unit word)
          (λ U. let s : step n t ≡ stop (component_of q) = after_word ∙ rw (U, drop_of_length-le t l) in rw s (turn_stop q (with_last p t h w f g W F G l) (both U)))
          (λ U. ends [] (with_last p t h w f g W F G l) U)

      more : g < length t → Turn n p t (step n t)
      more l =
          by_test (is_unit word)
          (λ U.
          let s : step n t ≡ go (component_of q) (g + white_len (drop g t)) = after_word ∙ rw U (end_cons (component_of q) g (drop g t) (omega (arith, length-drop g t))) in
          rw s (turn_go q (g + white_len (drop g t)) (with_more p t h w f g W F G l) (both U)))
          (λ U. ends (pairs_from (p + (g + white_len (drop g t))) (drop (g + white_len (drop g t)) t)) (with_more p t h w f g W F G l) U)

      turn_unit : Turn n p t (step n t)
      turn_unit = by_test (leb (length t) g) (λ l. last (leb-true (length t) g l)) (λ l. more (leb-false (length t) g l))

    turn_some : Turn n p t (step n t)
    turn_some =
        by_test (leb (length t) (piece_len t))
        (λ l. turn_alone (leb-true (length t) (piece_len t) l))
        (λ l. turn_unit (leb-false (length t) (piece_len t) l) (white_len (drop (piece_len t) t)) (piece_len t + white_len (drop (piece_len t) t)) (piece_len t + white_len (drop (piece_len t) t) + word_len (drop (piece_len t + white_len (drop (piece_len t) t)) t)) refl refl refl)

  -- what the division's step says of the pairs
  pub turn : Turn n p t (step n t)
  turn = by_test (is_amount n (take (piece_len t) t)) turn_some turn_none

-- ---- the pairs of a text t that begins at p, by the step

-- the first pair q is of the component c, and d follows it
pub record Next (n p : ℕ) (t : List ℕ) (c : Component) (d : List Pair) : Type 0 where
  pub this : Pair
  pub are : pairs_from p t ≡ this ∷ d
  pub component_is : component_of this ≡ c
  pub both : Good n p this

module _ (n p : ℕ) (t : List ℕ) where
  pub on_bad : step n t ≡ bad → first_bad n (pairs_from p t) ≡ Some (p + fault n t)
  on_bad e = from (step n t) (turn n p t) e
    where
      from : (s : Step) → Turn n p t s → s ≡ bad → first_bad n (pairs_from p t) ≡ Some (p + fault n t)
      from s (turn_bad h) e = h
      from s (turn_stop q P G) e = let z : ◌≡◌ {A = ℕ} 0 1 = cc in absurd (omega arith)
      from s (turn_go q k P G) e = let z : ◌≡◌ {A = ℕ} 0 1 = cc in absurd (omega arith)

  pub on_stop : {c : Component} → step n t ≡ stop c → Next n p t c []
  on_stop {c} e = from (step n t) (turn n p t) e
    where
      from : (s : Step) → Turn n p t s → s ≡ stop c → Next n p t c []
      from s (turn_bad h) e = let z : ◌≡◌ {A = ℕ} 0 1 = cc in absurd (omega arith)
      from s (turn_stop q P G) e = record { this = q; are = P; component_is = cc; both = G }
      from s (turn_go q k P G) e = let z : ◌≡◌ {A = ℕ} 0 1 = cc in absurd (omega arith)

  pub on_go : {c : Component} {k : ℕ} → step n t ≡ go c k → Next n p t c (pairs_from (p + k) (drop k t))
  on_go {c} {k} e = from (step n t) (turn n p t) e
    where
      from : (s : Step) → Turn n p t s → s ≡ go c k → Next n p t c (pairs_from (p + k) (drop k t))
      from s (turn_bad h) e = let z : ◌≡◌ {A = ℕ} 0 1 = cc in absurd (omega arith)
      from s (turn_stop q P G) e = let z : ◌≡◌ {A = ℕ} 0 1 = cc in absurd (omega arith)
      from s (turn_go q m P G) e = let i : m ≡ k = cc in record { this = q; are = rw i at P; component_is = cc; both = G }
