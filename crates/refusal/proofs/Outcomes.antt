-- Outcomes: an accepted value is no refusal, a refusal has one number; and outcomes put together, one attempt after
-- another, of a text as given and trimmed, divided by a unit. Assumes nothing.
use mathlib.Core.Path.{◌≡◌, refl, sym, ap, ◌∙◌}
use mathlib.Core.List.{List}
use Prim.Native.Nat.{ℕ}
use native.Mathlib.Omega.{arith}
use lib.IntN.{ℤ, pos}
use lib.Signed.{quot_z}
use mir.Syntax.{Width}
use mir.Val.{SFits, to_z, of_z}
use mir.Facts.{to_z-of_z}
use Rattle.text.specs.Trim.{trimmed}
use Rattle.refusal.specs.Outcome.{Outcome, accepted, refused}
use Rattle.refusal.specs.Attempts.{or_else, retried, divided}

pub clash {ℓ} : {X : Type ℓ} {A : Type 0} {n : ℕ} {a : A} → refused n ≡ accepted a → X
clash e = let x : ◌≡◌ {A = ℕ} 0 1 = cc in absurd (omega arith)

pub same : {A : Type 0} {m n : ℕ} → ◌≡◌ {A = Outcome A} (refused m) (refused n) → m ≡ n
same e = cc

-- ---- a value, as a local reads it back

pub back : {w : Width} {z : ℤ} {o : Outcome ℤ} → SFits w z → accepted z ≡ o → accepted (to_z w (of_z w z)) ≡ o
back f e = ap accepted (to_z-of_z f) ∙ e

-- ---- one attempt after another

-- where one of two outcomes is accepted, and where neither is
pub or_else_lem : {X : Type 0} (o p : Outcome ℤ) (z : ℤ) → or_else o p ≡ accepted z → (o ≡ accepted z → X) → ((n : ℕ) → o ≡ refused n → p ≡ accepted z → X) → X
or_else_lem (accepted y) p z e f g = f e
or_else_lem (refused n) p z e f g = g n refl e

pub neither : {X : Type 0} (o p : Outcome ℤ) (n : ℕ) → or_else o p ≡ refused n → ((m : ℕ) → o ≡ refused m → p ≡ refused n → X) → X
neither (accepted y) p n e f = clash (sym e)
neither (refused m) p n e f = f m refl e

pub in_turn : (o p q : Outcome ℤ) → or_else o (or_else p q) ≡ or_else (or_else o p) q
in_turn (accepted z) p q = refl
in_turn (refused n) p q = refl

-- ---- as given, then trimmed

module _ (reader : List ℕ → Outcome ℤ) (t : List ℕ) where
  pub as_given : {z : ℤ} → accepted z ≡ reader t → accepted z ≡ retried reader t
  as_given e = rw (← e)

  pub once_trimmed : {n : ℕ} {o : Outcome ℤ} → refused n ≡ reader t → o ≡ reader (trimmed t) → o ≡ retried reader t
  once_trimmed e q = rw (← e) q

-- ---- divided

-- what is known of an outcome that was divided
pub divided_back : (X : ℤ → Type 0) (k : ℕ) (o : Outcome ℤ) (z : ℤ) → divided k o ≡ accepted z → ((y : ℤ) → o ≡ accepted y → X (quot_z y (pos k))) → X z
divided_back X k (accepted y) z e f = let q : quot_z y (pos k) ≡ z = cc in rw (← q) (f y refl)
divided_back X k (refused n) z e f = clash e

pub still_refused : (k : ℕ) (o : Outcome ℤ) (n : ℕ) → divided k o ≡ refused n → o ≡ refused n
still_refused k (accepted y) n e = clash (sym e)
still_refused k (refused m) n e = let q : m ≡ n = same e in rw q

pub over_else : (k : ℕ) (o p : Outcome ℤ) → divided k (or_else o p) ≡ or_else (divided k o) (divided k p)
over_else k (accepted z) p = refl
over_else k (refused n) p = refl
