-- Demand 3 (document 01, "In demand 3 a division is .."), one claim about the whole text: which answer a text has, said of its divisions
-- and their running totals. The limit n is the most digits behind a point; u is the default unit. `Rattle.rule.proofs.Demand3` proves
-- that each text has exactly one answer and that Answer.antt computes it. Assumes nothing.
use Rattle.std.specs.Prelude.{◌≡◌, true, List, [], ◌∷◌, ◌++◌, ℕ, ℤ, pos, ◌+ℤ◌, ◌*ℤ◌}
use Rattle.utf8.specs.Utf8.{Utf8}
use Rattle.number.specs.Widths.{in_signed}
use Rattle.refusal.specs.Outcome.{Outcome, accepted, refused}
use Rattle.amount.specs.Grammar.{Value, Amount}
use Rattle.component.specs.Grammar.{Component, Divides}
use Rattle.component.specs.Spelled.{unit_for}
use Rattle.unit.specs.declared.IntervalUnit.{IntervalUnit}
use Rattle.rule.specs.Contribution.{Counts, counts, contribution, fits, plus, zeros}

-- running totals: from c, the components leave e; "each component adds its contribution, count by count, to what the one before left,
-- and all three must fit each time"
pub data Runs (n : ℕ) (u : IntervalUnit) : Counts → List Component → Counts → Type 0 where
  -- no component is left
  done : {c : Counts} → Runs n u c [] c
  -- one more, whose amount has the value v: its contribution fits, and so do the totals with it
  add : {c e : Counts} {p : Component} {d : List Component} {v : Value} → Amount n p.amount v → fits (contribution n (unit_for u p) v) ≡ true
      → fits (plus c (contribution n (unit_for u p) v)) ≡ true → Runs n u (plus c (contribution n (unit_for u p) v)) d e → Runs n u c (p ∷ d) e

-- "a unit comes twice": two components of the list have the same
pub data Repeats (u : IntervalUnit) : List Component → Type 0 where
  two : (c e : Component) (d d' d'' : List Component) → unit_for u c ≡ unit_for u e → Repeats u (d ++ (c ∷ (d' ++ (e ∷ d''))))

-- a text and its answer, the first that holds; a text that has a division is UTF-8 (`Rattle.component.proofs.Agreement.well_formed`)
pub data Means (n : ℕ) (u : IntervalUnit) (t : List ℕ) : Outcome Counts → Type 0 where
  -- a division, no unit twice, and running totals that fit: the last of them
  totalled : {d : List Component} {e : Counts} → Divides n t d → (Repeats u d → ⊥) → Runs n u zeros d e → Means n u t (accepted e)
  -- the bytes are not well-formed UTF-8
  not_utf8 : (Utf8 t → ⊥) → Means n u t (refused 1)
  -- no division
  undivided : Utf8 t → ((d : List Component) → Divides n t d → ⊥) → Means n u t (refused 8)
  -- a division in which a unit comes twice
  repeated : {d : List Component} → Divides n t d → Repeats u d → Means n u t (refused 9)
  -- a division, no unit twice, and no running totals that fit
  unfit : {d : List Component} → Divides n t d → (Repeats u d → ⊥) → ((e : Counts) → Runs n u zeros d e → ⊥) → Means n u t (refused 10)

-- ---- the narrowed forms

-- year-month holds the total months where the total days and nanoseconds are 0
pub data YearMonths : Counts → ℤ → Type 0 where
  months_alone : {m : ℤ} → YearMonths (counts m (pos 0) (pos 0)) m

-- what day-time answers: days and milliseconds
pub record DayTime : Type 0 where
  pub days : ℤ
  pub millis : ℤ

-- one of them
abbrev pub day_time_of : ℤ → ℤ → DayTime
day_time_of d m = record { days = d; millis = m }

-- day-time holds "months times 30 plus days, each step in 32 bits, and nanoseconds over 1,000,000, which must divide and fit 32 bits"
pub data DayTimes : Counts → DayTime → Type 0 where
  in_days : {m d k : ℤ} → in_signed 31 (m *ℤ pos 30) ≡ true → in_signed 31 (m *ℤ pos 30 +ℤ d) ≡ true → in_signed 31 k ≡ true
      → DayTimes (counts m d (k *ℤ pos 1_000_000)) (day_time_of (m *ℤ pos 30 +ℤ d) k)

-- a text and its answer in a narrowed form, where Holds says what the form makes of counts
pub data Narrows {A : Type 0} (Holds : Counts → A → Type 0) (n : ℕ) (u : IntervalUnit) (t : List ℕ) : Outcome A → Type 0 where
  -- the form holds the result
  held : {c : Counts} {v : A} → Means n u t (accepted c) → Holds c v → Narrows Holds n u t (accepted v)
  -- it cannot
  unheld : {c : Counts} → Means n u t (accepted c) → ((v : A) → Holds c v → ⊥) → Narrows Holds n u t (refused 11)
  -- the text is refused already
  no_counts : {k : ℕ} → Means n u t (refused k) → Narrows Holds n u t (refused k)
