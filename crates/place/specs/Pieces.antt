-- The pieces of an interval text: document 02, No. 2, "Pieces are as the Rust's splitter cuts them", which is `split_interval_components`.
-- Each has its place: how many bytes of the text stand before it. Every text is cut in exactly one way
-- (`Rattle.place.proofs.Cutting.splits`), and Where.antt computes it. Assumes nothing.
use Rattle.std.specs.Prelude.{◌≡◌, Bool, true, false, List, [], ◌∷◌, ◌++◌, ℕ, ◌+◌, length, Option, None, Some}
use Rattle.white.specs.WhiteSpace.{White}
use Rattle.component.specs.Grammar.{Component, component}
use Rattle.component.specs.Fault.{in_amount, all_in_amount}

-- bytes of a text, and the place where they begin
pub record Piece : Type 0 where
  pub at : ℕ
  pub bytes : List ℕ

-- one of them
abbrev pub piece : ℕ → List ℕ → Piece
piece p w = record { at = p; bytes = w }

-- no white space character stands in w
unfoldable pub Unspaced : List ℕ → Type 0
Unspaced w = (a s b : List ℕ) → w ≡ a ++ (s ++ b) → White s → ⊥

-- a text that begins at the place p, and its words: it is split at each white space character, so that there are empty words too
pub data Words : ℕ → List ℕ → List Piece → Type 0 where
  last_word : {p : ℕ} {w : List ℕ} → Unspaced w → Words p w (piece p w ∷ [])
  word_then_more : {p : ℕ} {w s r : List ℕ} {l : List Piece} → Unspaced w → White s → Words (p + (length w + length s)) r l → Words p (w ++ (s ++ r)) (piece p w ∷ l)

-- an amount piece and its unit piece, which may be missing, and whether white space stands between them
pub record Pair : Type 0 where
  pub amount : Piece
  pub spaced : Bool
  pub unit : Option Piece

-- one of them
abbrev pub pair : Piece → Bool → Option Piece → Pair
pair a s u = record { amount = a; spaced = s; unit = u }

-- words, and the pairs that they make
pub data Pairs : List Piece → List Pair → Type 0 where
  no_word : Pairs [] []
  -- a word with some other byte is an amount and a unit, parted before the first such byte
  parted : {p b : ℕ} {a u : List ℕ} {l : List Piece} {d : List Pair} → all_in_amount a ≡ true → in_amount b ≡ false → Pairs l d
      → Pairs (piece p (a ++ (b ∷ u)) ∷ l) (pair (piece p a) false (Some (piece (p + length a) (b ∷ u))) ∷ d)
  -- any other word is an amount, and its unit is the next word
  two_words : {w u : Piece} {l : List Piece} {d : List Pair} → all_in_amount w.bytes ≡ true → Pairs l d → Pairs (w ∷ u ∷ l) (pair w true (Some u) ∷ d)
  -- or there is none, if it is the last
  one_word : {w : Piece} → all_in_amount w.bytes ≡ true → Pairs (w ∷ []) (pair w false None ∷ [])

-- a text that begins at the place p, and its pairs
pub record Splits (p : ℕ) (t : List ℕ) (d : List Pair) : Type 0 where
  pub words : List Piece
  pub words_are : Words p t words
  pub pairs_are : Pairs words d

-- ---- pairs as components

-- the bytes of a piece, if there is one
unfoldable pub bytes_of : Option Piece → Option (List ℕ)
bytes_of None = None
bytes_of (Some w) = Some w.bytes

-- the component that a pair is, without its places
unfoldable pub component_of : Pair → Component
component_of c = component c.amount.bytes c.spaced (bytes_of c.unit)

unfoldable pub components : List Pair → List Component
components [] = []
components (c ∷ d) = component_of c ∷ components d
