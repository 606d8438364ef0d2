-- The listing of an interval text, computed from its division. The limit n is the most digits behind a point; u is the default unit. That it is
-- the listing of Listing.antt says the theorem `Rattle.listing.proofs.Agreement.agrees`. Assumes nothing.
use Rattle.std.specs.Prelude.{List, [], ◌∷◌, ◌++◌, ℕ, Option, None, Some}
use Rattle.utf8.specs.Quoted.{bytes}
use Rattle.refusal.specs.Outcome.{Outcome, accepted, and_then}
use Rattle.decimal.specs.Decimal.{signed_text}
use Rattle.amount.specs.Grammar.{Value}
use Rattle.amount.specs.Scan.{amount_of}
use Rattle.unit.specs.declared.IntervalUnit.{IntervalUnit}
use Rattle.component.specs.Grammar.{Component}
use Rattle.component.specs.Division.{divide}
use Rattle.component.specs.Spelled.{unit_for}
use Rattle.rule.specs.Answer.{month_day_nano}
use Rattle.listing.specs.Names.{name}

-- the line of an amount of a unit
unfoldable pub line : IntervalUnit → Value → List ℕ
line u v = bytes "unit=" ++ (name u ++ (bytes " whole=" ++ (signed_text v.integer ++ (bytes " frac=" ++ (signed_text v.frac ++ (0x0A ∷ []))))))

-- the lines of components
unfoldable pub lines : ℕ → IntervalUnit → List Component → List ℕ
lines n u [] = []
lines n u (c ∷ d) = line (unit_for u c) (amount_of n c.amount) ++ lines n u d

-- those of a division, if there is one
unfoldable pub lines_if : ℕ → IntervalUnit → Option (List Component) → List ℕ
lines_if n u None = []
lines_if n u (Some d) = lines n u d

-- the listing of a text
unfoldable pub listing : ℕ → IntervalUnit → List ℕ → Outcome (List ℕ)
listing n u t = and_then (month_day_nano n u t) (λ e. accepted (lines_if n u (divide n t)))
