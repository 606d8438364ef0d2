-- The pieces of a text that are computed are the ones of the relation (`splits`), so that every text is cut in exactly one way. Its words
-- from the left: one that ends it (`words_last`), or one, white space, and the words of the rest (`words_more`). Assumes nothing.
use mathlib.Core.Path.{◌≡◌, refl, sym, ap, ◌∙◌}
use mathlib.Core.Bool.{true, false}
use mathlib.Core.Logic.{◌⊎◌, inl, inr, ⊎_elim, ◌↔◌}
use mathlib.Core.List.{List, [], ◌∷◌, ◌++◌, append_assoc, append-nil}
use Rattle.std.specs.Prelude.{Some}
use Prim.Native.Nat.{ℕ, zero, suc, ◌+◌, ◌≤◌, ◌<◌}
use native.Mathlib.Nat.{add-zero}
use native.Mathlib.Omega.{arith}
use lib.Dec.{eqb, leb, ltb}
use lib.ListN.{length, get_or, take, drop, length-append, length-drop, take-append-drop, drop_of_length-le, get_or-append}
use lib.Seq.{take-append-le, take-append_seam, drop-append_seam, drop-append-add, drop-drop, drop-cons, length-take-le, take_all, take-length}
use borrow.Author.Tests.{eqb-true, eqb-false, eq-eqb, ne_eqb, leb-true, leb-false, ltb-true}
use Rattle.text.proofs.Bools.{by_test}
use Rattle.white.specs.WhiteSpace.{White, white, white_len}
use Rattle.white.proofs.WhiteAgrees.{found, measures}
use Rattle.white.proofs.Characters.{white_some}
use Rattle.unit.specs.Units.{word_len}
use Rattle.unit.proofs.Spelling.{no_more, Ends, at_end, at_white, word_run, word_on, word_off}
use Rattle.unit.proofs.WordLaws.{Halts, word_is}
use Rattle.component.specs.Fault.{in_amount, all_in_amount, piece_len}
use Rattle.component.proofs.Faults.{in_piece, piece_none, piece_inside, piece_ends}
use Rattle.place.specs.Pieces.{Piece, piece, Unspaced, Words, last_word, word_then_more, Pair, pair, Pairs, no_word, parted, two_words, one_word, Splits}
use Rattle.place.specs.Where.{word_then, words_by, words, is_whole, parted_at, pairs_of, pairs_from}

-- ---- the bytes of a character

-- bytes behind the first of a character
unfoldable Behind : List ℕ → Type 0
Behind [] = Unit
Behind (b ∷ t) = (0x80 ≤ b) × (b < 0xC0) × Behind t

-- the first is none of those
character : {s : List ℕ} → White s → ((get_or s 0 0 < 0x80) ⊎ (0xC0 ≤ get_or s 0 0)) × Behind (drop 1 s)
unfolding Behind
character (white c e) =
    by_test (ltb c 0x80)
    (λ p. rw p (inl (ltb-true c 0x80 p), tt))
    (λ p. by_test (ltb c 0x800)
    (λ q. rw (p, q) (inr (omega arith), (omega arith, omega arith, tt)))
    (λ q. by_test (ltb c 0x10000)
    (λ r. rw (p, q, r) (inr (omega arith), (omega arith, omega arith, (omega arith, omega arith, tt))))
    (λ r. rw (p, q, r) (inr (omega arith), (omega arith, omega arith, (omega arith, omega arith, (omega arith, omega arith, tt)))))))

-- such bytes that run past w reach the first byte of what follows it
reached : (w x : List ℕ) (k : ℕ) → length w < k → 0 < length x → Behind (take k (w ++ x)) → (0x80 ≤ get_or x 0 0) × (get_or x 0 0 < 0xC0)
unfolding Behind
reached w x zero h l B = absurd (omega arith)
reached [] [] (suc k) h l B = absurd (omega arith)
reached [] (b ∷ x) (suc k) h l B = (B.0, B.1)
reached (b ∷ w) x (suc k) h l B = reached w x k (omega arith) l B.2

-- ---- a word and what follows it

-- a word goes up to the first white space character, and none stands in it
short_word : (a x : List ℕ) → 0 < white_len x → word_len (a ++ x) ≤ length a
unfolding word_len
short_word [] x h = omega (arith, word_off x 0 h)
short_word (b ∷ a) x h =
    by_test (eqb (white_len (b ∷ (a ++ x))) 0) (λ e. rw e (omega (arith, short_word a x h))) (λ e. rw e (omega arith))

unspaced : (t : List ℕ) → Unspaced (take (word_len t) t)
unfolding Unspaced
unspaced t a s b e W =
    let y : List ℕ = drop (word_len t) t in
    let q : a ++ (s ++ (b ++ y)) ≡ t = rw (← append_assoc s b y, ← append_assoc a (s ++ b) y, ← e) (take-append-drop (word_len t) t) in
    let h : word_len t ≤ length a = rw q at (short_word a (s ++ (b ++ y)) (rw (measures W (b ++ y)) (white_some W))) in
    omega (arith, h, ap length e, length-take-le (word_len t) t (word_is t).1, length-append a (s ++ b), length-append s b, white_some W)

-- what ends a word does not begin with such a byte
ends_outside : (x : List ℕ) → Ends x → (get_or x 0 0 < 0x80) ⊎ (0xC0 ≤ get_or x 0 0)
ends_outside x at_end = inl (omega arith)
ends_outside x (at_white {w} r W) = rw (get_or-append w r 0 0 (white_some W)) (character W).0

-- no white space character begins in a word without one: it would stand in the word, or reach what ends it
module _ (b : ℕ) (w x : List ℕ) (U : Unspaced (b ∷ w)) (E : Ends x) where
  not_over : (k : ℕ) → White (take k (b ∷ (w ++ x))) → k ≤ length (b ∷ (w ++ x)) → length (b ∷ w) < k → ⊥
  not_over zero W h l = omega arith
  not_over (suc k) W h l =
      let r = reached w x k (omega arith) (omega (arith, length-append w x)) (character W).1 in
      ⊎_elim (λ o. omega (arith, r.0)) (λ o. omega (arith, r.1)) (ends_outside x E)

  not_begun : white_len (b ∷ (w ++ x)) ≡ 0
  unfolding Unspaced
  not_begun =
      let k : ℕ = white_len (b ∷ (w ++ x)) in
      ⊎_elim (λ e. e)
      (λ f. absurd (by_test (leb k (length (b ∷ w)))
      (λ e. U [] (take k (b ∷ w)) (drop k (b ∷ w)) (sym (take-append-drop k (b ∷ w))) (rw (take-append-le k (b ∷ w) x (leb-true k (length (b ∷ w)) e)) at f.0))
      (λ e. not_over k f.0 f.1 (leb-false k (length (b ∷ w)) e))))
      (found (b ∷ (w ++ x)))

-- a word without white space, up to the end or to white space, is the first word
first_word : (w x : List ℕ) → Unspaced w → Ends x → word_len (w ++ x) ≡ length w
unfolding Unspaced
first_word [] x U E = word_run [] x no_more E
first_word (b ∷ w) x U E =
    word_on (b ∷ (w ++ x)) 0 (omega arith) (not_begun b w x U E) ∙ omega (arith, first_word w x (λ a s c e W. U (b ∷ a) s c (ap (b ∷◌) e) W) E)

-- ---- at most j words from the left

-- how many bytes stand before the second word
abbrev next : List ℕ → ℕ
next t = word_len t + white_len (drop (word_len t) t)

-- white space follows the first word, and what stands behind that is shorter
record Goes (t : List ℕ) : Type 0 where
  is_white : White (take (white_len (drop (word_len t) t)) (drop (word_len t) t))
  inside : white_len (drop (word_len t) t) ≤ length (drop (word_len t) t)
  shorter : length (drop (next t) t) < length t

-- where the word does not end the text
goes : (t : List ℕ) → word_len t < length t → Goes t
unfolding Halts
goes t h =
    let x : List ℕ = drop (word_len t) t in
    let q = drop-cons t (word_len t) 0 h in
    ⊎_elim
    (λ e. absurd ((rw q at (word_is t).0) (rw q at e)))
    (λ f. record {
      is_white = f.0;
      inside = f.1;
      shorter = omega (arith, h, length-drop (next t) t, white_some f.0, length-take-le (white_len x) x f.1);
    })
    (found x)

-- the word ends the text, or it does not
module _ (j p : ℕ) (t : List ℕ) where
  by_last : length t ≤ word_len t → words_by (suc j) p t ≡ piece p (take (word_len t) t) ∷ []
  unfolding words_by word_then
  by_last h = rw (drop_of_length-le t h)

  by_more : word_len t < length t → words_by (suc j) p t ≡ piece p (take (word_len t) t) ∷ words_by j (p + next t) (drop (next t) t)
  unfolding words_by word_then
  by_more h = rw (drop-cons t (word_len t) 0 h)

-- ---- words, both ways

-- the first word, before the words of what goes on
go_on : (p : ℕ) (t : List ℕ) {l : List Piece} → Goes t → Words (p + next t) (drop (next t) t) l → Words p t (piece p (take (word_len t) t) ∷ l)
go_on p t {l} g R =
    let n : ℕ = word_len t in
    let x : List ℕ = drop n t in
    let k : ℕ = white_len x in
    let r : Words (p + (length (take n t) + length (take k x))) (drop k x) l = rw (length-take-le n t (word_is t).1, length-take-le k x g.inside, drop-drop k n t) R in
    let S : Words p (take n t ++ (take k x ++ drop k x)) (piece p (take n t) ∷ l) = word_then_more (unspaced t) g.is_white r in
    rw (take-append-drop k x, take-append-drop n t) at S

-- what is computed are the words
words_sound : (j p : ℕ) (t : List ℕ) → length t < j → Words p t (words_by j p t)
words_sound zero p t h = absurd (omega arith)
words_sound (suc j) p t h =
    by_test (leb (length t) (word_len t))
    (λ e. let l = leb-true (length t) (word_len t) e in rw (by_last j p t l, take_all (word_len t) t l) (last_word (rw (take_all (word_len t) t l) at (unspaced t))))
    (λ e. let l = leb-false (length t) (word_len t) e in rw (by_more j p t l) (go_on p t (goes t l) (words_sound j (p + next t) (drop (next t) t) (omega (arith, h, (goes t l).shorter)))))

-- words are the ones computed
words_complete : (j : ℕ) {p : ℕ} {t : List ℕ} {l : List Piece} → Words p t l → length t < j → words_by j p t ≡ l
words_complete zero R h = absurd (omega arith)
words_complete (suc j) (last_word {p} {w} U) h =
    let n : word_len w ≡ length w = rw append-nil at (first_word w [] U at_end) in
    by_last j p w (omega arith) ∙ rw (n, take-length w)
words_complete (suc j) (word_then_more {p} {w} {s} {r} U W R) h =
    let n = first_word w (s ++ r) U (at_white r W) in
    let a = length-append w (s ++ r) in
    let b = length-append s r in
    let c = white_some W in
    by_more j p (w ++ (s ++ r)) (omega arith) ∙
    rw (n, take-append_seam w (s ++ r), drop-append_seam w (s ++ r), measures W r, drop-append-add w (s ++ r) (length s), drop-append_seam s r, words_complete j R (omega arith))

-- ---- the words of a text

-- enough words: the count does not matter
pub words_enough : (j p : ℕ) (t : List ℕ) → length t < j → words_by j p t ≡ words p t
unfolding words
words_enough j p t h = words_complete j (words_sound (suc (length t)) p t (omega arith)) h

-- one that ends it, or one, white space, and the words of the rest
pub words_last : (p : ℕ) (t : List ℕ) → length t ≤ word_len t → words p t ≡ piece p (take (word_len t) t) ∷ []
unfolding words
words_last p t h = by_last (length t) p t h

pub words_more : (p : ℕ) (t : List ℕ) → word_len t < length t → words p t ≡ piece p (take (word_len t) t) ∷ words (p + (word_len t + white_len (drop (word_len t) t))) (drop (word_len t + white_len (drop (word_len t) t)) t)
unfolding words
words_more p t h =
    by_more (length t) p t h ∙ rw (words_enough (length t) (p + next t) (drop (next t) t) (goes t h).shorter)

-- ---- pairs, both ways

-- a piece is of bytes of amounts
piece_all : (t : List ℕ) → all_in_amount (take (piece_len t) t) ≡ true
unfolding all_in_amount piece_len
piece_all [] = refl
piece_all (b ∷ t) = by_test (in_amount b) (λ e. rw e (rw e (piece_all t))) (λ e. rw e)

module _ (w : Piece) where
  -- a whole word is of them alone
  all_whole : all_in_amount w.bytes ≡ true → is_whole w ≡ true
  unfolding is_whole piece_len
  all_whole A = eq-eqb (piece_len w.bytes) (length w.bytes) (rw (append-nil, add-zero) at (in_piece w.bytes [] A))

  whole_all : is_whole w ≡ true → all_in_amount w.bytes ≡ true
  unfolding is_whole
  whole_all e = rw (eqb-true (piece_len w.bytes) (length w.bytes) e, take-length w.bytes) at (piece_all w.bytes)

  -- a word that is not whole is parted, whatever follows
  pub by_parted : (l : List Piece) → is_whole w ≡ false → pairs_of (w ∷ l) ≡ parted_at (piece_len w.bytes) w ∷ pairs_of l
  unfolding pairs_of
  by_parted [] e = rw e
  by_parted (u ∷ l) e = rw e

-- such a word is parted behind its piece
parted_at_lem : (p : ℕ) (a x : List ℕ) {l : List Piece} {d : List Pair} → all_in_amount a ≡ true → 0 < length x → in_amount (get_or x 0 0) ≡ false → Pairs l d
    → Pairs (piece p (a ++ x) ∷ l) (pair (piece p a) false (Some (piece (p + length a) x)) ∷ d)
parted_at_lem p a [] A h e P = absurd (omega arith)
parted_at_lem p a (b ∷ x) A h e P = parted A e P

not_whole : (w : Piece) {l : List Piece} {d : List Pair} → is_whole w ≡ false → Pairs l d → Pairs (w ∷ l) (parted_at (piece_len w.bytes) w ∷ d)
unfolding is_whole parted_at
not_whole w e P =
    let t : List ℕ = w.bytes in
    let k : ℕ = piece_len t in
    let i = piece_inside t in
    let n = eqb-false k (length t) e in
    let h : 0 < length (drop k t) = omega (arith, i, n, length-drop k t) in
    rw (take-append-drop k t, length-take-le k t i) at (parted_at_lem w.at (take k t) (drop k t) (piece_all t) h (piece_ends t) P)

-- what is computed are the pairs
pairs_sound : (l : List Piece) → Pairs l (pairs_of l)
unfolding pairs_of
pairs_sound [] = no_word
pairs_sound (w ∷ []) = by_test (is_whole w) (λ e. rw e (one_word (whole_all w e))) (λ e. rw e (not_whole w e no_word))
pairs_sound (w ∷ u ∷ l) =
    by_test (is_whole w)
    (λ e. rw e (two_words (whole_all w e) (pairs_sound l)))
    (λ e. rw e (not_whole w e (pairs_sound (u ∷ l))))

-- pairs are the ones computed
pairs_complete : {l : List Piece} {d : List Pair} → Pairs l d → pairs_of l ≡ d
unfolding pairs_of is_whole parted_at
pairs_complete no_word = refl
pairs_complete (parted {p} {b} {a} {u} {l} A B P) =
    let k : piece_len (a ++ (b ∷ u)) ≡ length a = omega (arith, in_piece a (b ∷ u) A, piece_none (b ∷ u) B) in
    let n = ne_eqb (piece_len (a ++ (b ∷ u))) (length (a ++ (b ∷ u))) (λ q. omega (arith, k, q, length-append a (b ∷ u))) in
    by_parted (piece p (a ++ (b ∷ u))) l n ∙ rw (k, take-append_seam a (b ∷ u), drop-append_seam a (b ∷ u), pairs_complete P)
pairs_complete (two_words {w} A P) = rw (all_whole w A, pairs_complete P)
pairs_complete (one_word {w} A) = rw (all_whole w A)

-- ---- THE PIECES

-- pairs are those of a text exactly where they are the ones computed
pub splits : (p : ℕ) (t : List ℕ) (d : List Pair) → Splits p t d ↔ (pairs_from p t ≡ d)
unfolding pairs_from words
splits p t d = (
  λ S. rw (words_complete (suc (length t)) S.words_are (omega arith)) (pairs_complete S.pairs_are),
  λ e. record { words = words p t; words_are = words_sound (suc (length t)) p t (omega arith); pairs_are = rw e at (pairs_sound (words p t)) },
)
