-- The place of a refused interval text, computed: its words, their pairs, and what is first in them, 8 before 9 before 10. The limit n is the most
-- digits behind a point; u is the default unit. `Rattle.place.proofs.Placing.one_place` says that it is the place of Place.antt.
-- Assumes nothing.
use Rattle.std.specs.Prelude.{Bool, true, false, cond, ◌&&◌, ◌||◌, List, [], ◌∷◌, ℕ, zero, suc, ◌+◌, eqb, length, take, drop, Option, None, Some}
use Rattle.utf8.specs.Utf8.{utf8}
use Rattle.white.specs.WhiteSpace.{white_len}
use Rattle.unit.specs.Units.{rank, is_unit, word_len}
use Rattle.unit.specs.declared.IntervalUnit.{IntervalUnit}
use Rattle.component.specs.Fault.{piece_len, is_amount}
use Rattle.component.specs.Spelled.{unit_for}
use Rattle.rule.specs.Contribution.{Counts, fits, plus, zeros}
use Rattle.rule.specs.Answer.{gives}
use Rattle.place.specs.Pieces.{Piece, piece, Pair, pair, component_of}

-- a word before what f makes of the text behind it, from so many bytes on: nothing, or white space and further words
unfoldable pub word_then : Piece → ℕ → List ℕ → (ℕ → List Piece) → List Piece
word_then w k [] f = w ∷ []
word_then w k (b ∷ t) f = w ∷ f (k + white_len (b ∷ t))

-- at most j words of a text that begins at the place p
unfoldable pub words_by : ℕ → ℕ → List ℕ → List Piece
words_by zero p t = []
words_by (suc j) p t = word_then (piece p (take (word_len t) t)) (word_len t) (drop (word_len t) t) (λ k. words_by j (p + k) (drop k t))

-- all of them: no more than one more than there are bytes
unfoldable pub words : ℕ → List ℕ → List Piece
words p t = words_by (suc (length t)) p t

-- a word of digits, points and minuses alone
unfoldable pub is_whole : Piece → Bool
is_whole w = eqb (piece_len w.bytes) (length w.bytes)

-- a word parted behind its amount piece
unfoldable pub parted_at : ℕ → Piece → Pair
parted_at k w = pair (piece w.at (take k w.bytes)) false (Some (piece (w.at + k) (drop k w.bytes)))

-- the pairs that words make
unfoldable pub pairs_of : List Piece → List Pair
pairs_of [] = []
pairs_of (w ∷ []) = cond (is_whole w) (pair w false None) (parted_at (piece_len w.bytes) w) ∷ []
pairs_of (w ∷ u ∷ l) = cond (is_whole w) (pair w true (Some u) ∷ pairs_of l) (parted_at (piece_len w.bytes) w ∷ pairs_of (u ∷ l))

-- the pairs of a text that begins at the place p
unfoldable pub pairs_from : ℕ → List ℕ → List Pair
pairs_from p t = pairs_of (words p t)

-- ---- what is first

-- the first place, else the second
unfoldable pub or_later : Option ℕ → Option ℕ → Option ℕ
or_later None q = q
or_later (Some p) q = Some p

-- the unit piece, where it is no unit
unfoldable pub bad_unit : Option Piece → Option ℕ
bad_unit None = None
bad_unit (Some w) = cond (is_unit w.bytes) None (Some w.at)

-- the first bad piece: 8
unfoldable pub first_bad : ℕ → List Pair → Option ℕ
first_bad n [] = None
first_bad n (c ∷ d) = cond (is_amount n c.amount.bytes) (or_later (bad_unit c.unit) (first_bad n d)) (Some c.amount.at)

-- the units seen, and v
unfoldable pub seen_with : (IntervalUnit → Bool) → IntervalUnit → IntervalUnit → Bool
seen_with seen v w = eqb (rank v) (rank w) || seen w

-- none
unfoldable pub none_seen : IntervalUnit → Bool
none_seen v = false

-- the first component whose unit was seen, or came before: 9
unfoldable pub first_repeat : IntervalUnit → (IntervalUnit → Bool) → List Pair → Option ℕ
first_repeat u seen [] = None
first_repeat u seen (c ∷ d) =
    cond (seen (unit_for u (component_of c))) (Some c.amount.at) (first_repeat u (seen_with seen (unit_for u (component_of c))) d)

-- the first component whose contribution does not fit, or with which the totals from c on do not: 10
unfoldable pub first_unfit : ℕ → IntervalUnit → Counts → List Pair → Option ℕ
first_unfit n u c [] = None
first_unfit n u c (p ∷ d) =
    cond (fits (gives n u (component_of p)) && fits (plus c (gives n u (component_of p)))) (first_unfit n u (plus c (gives n u (component_of p))) d) (Some p.amount.at)

-- the first of the three
unfoldable pub first_of : ℕ → IntervalUnit → List Pair → Option ℕ
first_of n u d = or_later (first_bad n d) (or_later (first_repeat u none_seen d) (first_unfit n u zeros d))

-- the place of a text's refusal, if it has one
unfoldable pub place : ℕ → IntervalUnit → List ℕ → Option ℕ
place n u t = cond (utf8 t) (first_of n u (pairs_from 0 t)) None
