-- The listing of an interval text's components: document 02, No. 4, as a relation on the text's division. "One line each with a line feed",
-- "in text order": "unit=month whole=1 frac=500000000000000". "Unit is the name in singular, whole the integer part, frac the signed fraction
-- times ten to the" limit n of digits behind a point; u is the default unit, named where it stands in. Lines.antt computes it, and the theorem
-- `Rattle.listing.proofs.Agreement.agrees` says that it is this one. Assumes nothing.
use Rattle.std.specs.Prelude.{List, [], ◌∷◌, ◌++◌, ℕ}
use Rattle.utf8.specs.Quoted.{bytes}
use Rattle.refusal.specs.Outcome.{Outcome, accepted, refused}
use Rattle.decimal.specs.NumberText.{NumberText}
use Rattle.amount.specs.Grammar.{Value, Amount}
use Rattle.unit.specs.declared.IntervalUnit.{IntervalUnit}
use Rattle.component.specs.Grammar.{Component, Divides}
use Rattle.component.specs.Spelled.{unit_for}
use Rattle.rule.specs.Contribution.{Counts}
use Rattle.rule.specs.Meaning.{Means}
use Rattle.listing.specs.Names.{name}

-- a component and its line
pub data Line (n : ℕ) (u : IntervalUnit) : Component → List ℕ → Type 0 where
  line_of : {c : Component} {v : Value} {w f : List ℕ} → Amount n c.amount v → NumberText v.integer w → NumberText v.frac f
      → Line n u c (bytes "unit=" ++ (name (unit_for u c) ++ (bytes " whole=" ++ (w ++ (bytes " frac=" ++ (f ++ (0x0A ∷ [])))))))

-- components and their lines, in order
pub data Lines (n : ℕ) (u : IntervalUnit) : List Component → List ℕ → Type 0 where
  no_more : Lines n u [] []
  line_then : {c : Component} {d : List Component} {w l : List ℕ} → Line n u c w → Lines n u d l → Lines n u (c ∷ d) (w ++ l)

-- a text and its listing: the lines of its division, if the text is accepted; "a refused text gives the month-day-nano reader's number"
pub data Lists (n : ℕ) (u : IntervalUnit) (t : List ℕ) : Outcome (List ℕ) → Type 0 where
  listed : {e : Counts} {d : List Component} {l : List ℕ} → Means n u t (accepted e) → Divides n t d → Lines n u d l → Lists n u t (accepted l)
  not_accepted : {k : ℕ} → Means n u t (refused k) → Lists n u t (refused k)
