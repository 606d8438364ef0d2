-- A law that each time column cites: an outcome in integers is the outcome. Assumes nothing.
use Rattle.std.specs.Prelude.{◌≡◌, refl, ℤ}
use Rattle.refusal.specs.Outcome.{Outcome, accepted, refused, and_then}

pub in_integers : (o : Outcome ℤ) → and_then o (λ (z : ℤ). accepted z) ≡ o
in_integers (accepted z) = refl
in_integers (refused n) = refl
