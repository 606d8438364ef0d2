-- The place of a refused interval text: document 02, No. 2, as a relation on the text's pieces. "For 8 it is the first bad piece, the amount of
-- a component looked at before its unit; for 9 the first component that repeats a unit; for 10 the component whose contribution or total
-- first fails"; "a component [counts] at the byte where its amount begins". Only 8, 9 and 10 have a place. The limit n is the most digits
-- behind a point; u is the default unit. `Rattle.place.proofs.Placing.one_place` proves that each text has exactly one answer and that
-- Where.antt computes it. Assumes nothing.
use Rattle.std.specs.Prelude.{◌≡◌, Bool, true, false, List, [], ◌∷◌, ◌++◌, ℕ, Option, None, Some}
use Rattle.refusal.specs.Outcome.{accepted, refused}
use Rattle.amount.specs.Grammar.{Value, Amount}
use Rattle.unit.specs.Units.{is_unit}
use Rattle.unit.specs.declared.IntervalUnit.{IntervalUnit}
use Rattle.rule.specs.Contribution.{Counts, zeros}
use Rattle.rule.specs.Meaning.{Runs, Repeats, Means}
use Rattle.place.specs.Pieces.{Piece, Pair, pair, Splits, components}

-- the unit piece is a unit, or there is none
pub data UnitPiece : Option Piece → Type 0 where
  no_piece : UnitPiece None
  a_unit : {w : Piece} → is_unit w.bytes ≡ true → UnitPiece (Some w)

-- the first bad piece of a list of pairs, and its place
pub data FirstBad (n : ℕ) : List Pair → ℕ → Type 0 where
  -- the amount is none
  bad_amount : {c : Pair} {d : List Pair} → ((v : Value) → Amount n c.amount.bytes v → ⊥) → FirstBad n (c ∷ d) c.amount.at
  -- the amount is one, the unit is none
  bad_unit_piece : {a w : Piece} {s : Bool} {v : Value} {d : List Pair} → Amount n a.bytes v → is_unit w.bytes ≡ false → FirstBad n (pair a s (Some w) ∷ d) w.at
  -- both are good, and a later piece is the first bad one
  later : {c : Pair} {v : Value} {d : List Pair} {p : ℕ} → Amount n c.amount.bytes v → UnitPiece c.unit → FirstBad n d p → FirstBad n (c ∷ d) p

-- the first component whose unit came before, and its place: no unit comes twice before it, and with it one does
pub data FirstRepeat (u : IntervalUnit) : List Pair → ℕ → Type 0 where
  repeats_at : (front : List Pair) (c : Pair) (d : List Pair) → (Repeats u (components front) → ⊥) → Repeats u (components (front ++ (c ∷ [])))
      → FirstRepeat u (front ++ (c ∷ d)) c.amount.at

-- the first component whose contribution does not fit, or with which a running total does not, and its place: there are running totals before it,
-- and none with it
pub data FirstUnfit (n : ℕ) (u : IntervalUnit) : List Pair → ℕ → Type 0 where
  unfit_at : (front : List Pair) (c : Pair) (d : List Pair) {e : Counts} → Runs n u zeros (components front) e
      → ((f : Counts) → Runs n u zeros (components (front ++ (c ∷ []))) f → ⊥) → FirstUnfit n u (front ++ (c ∷ d)) c.amount.at

-- a text and the place of its refusal, if it has one
pub data Place (n : ℕ) (u : IntervalUnit) (t : List ℕ) : Option ℕ → Type 0 where
  -- accepted, and 1: none
  of_value : {e : Counts} → Means n u t (accepted e) → Place n u t None
  of_1 : Means n u t (refused 1) → Place n u t None
  -- 8, 9, 10
  of_8 : {d : List Pair} {p : ℕ} → Means n u t (refused 8) → Splits 0 t d → FirstBad n d p → Place n u t (Some p)
  of_9 : {d : List Pair} {p : ℕ} → Means n u t (refused 9) → Splits 0 t d → FirstRepeat u d p → Place n u t (Some p)
  of_10 : {d : List Pair} {p : ℕ} → Means n u t (refused 10) → Splits 0 t d → FirstUnfit n u d p → Place n u t (Some p)
