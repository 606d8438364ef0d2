-- What a time column reads fits its width, where a day and a second in its unit do. Assumes nothing.
use mathlib.Core.Path.{◌≡◌, refl}
use mathlib.Core.Bool.{true}
use mathlib.Core.List.{List}
use Rattle.std.specs.Prelude.{Option, None, Some}
use Prim.Native.Nat.{ℕ, ◌-◌, ◌*◌, ◌/◌, ◌≤◌, ◌<◌, ◌^◌}
use native.Mathlib.Omega.{arith}
use native.Mathlib.Nat.{div-lt_iff_lt-mul}
use lib.IntN.{ℤ, pos}
use lib.Signed.{quot_z}
use borrow.Author.Tests.{lt-ltb}
use Rattle.number.specs.Decimal.{numeral}
use Rattle.number.specs.Widths.{in_type, keep}
use Rattle.refusal.specs.Attempts.{or_else, divided}
use Rattle.refusal.specs.Outcome.{Outcome, accepted, refused}
use Rattle.text.specs.Trim.{trimmed}
use Rattle.text.proofs.Bools.{by_test}
use Rattle.time.specs.Answer.{time_nanos}
use Rattle.time.proofs.Bounds.{OfDay, read_most}
use Rattle.refusal.proofs.Outcomes.{clash}
use Rattle.time_column.specs.Answer.{on_integer, as_integer, time_column}

-- each value of an outcome is one of that many signed bits
abbrev pub Fits : ℕ → Outcome ℤ → Type 0
Fits bits o = (z : ℤ) → o ≡ accepted z → in_type true bits z ≡ true

-- a column of that many bits whose unit is k nanoseconds
module _ (k bits : ℕ) (some_unit : 1 ≤ k) (room : 86401000000000 < 2 ^ (bits - 1) * k) where
  either : (o p : Outcome ℤ) → Fits bits o → Fits bits p → Fits bits (or_else o p)
  either (accepted x) p f g = f
  either (refused n) p f g = g

  quotient : (z : ℤ) → OfDay z → in_type true bits (quot_z z (pos k)) ≡ true
  quotient z d =
      rw d.is
      (lt-ltb (d.count / k) (2 ^ (bits - 1)) ((div-lt_iff_lt-mul {k = k} (omega arith)).1 (omega (arith, d.most))))

  in_units : (t : List ℕ) → Fits bits (divided k (time_nanos t))
  in_units t = by (time_nanos t) refl
    where
      by : (o : Outcome ℤ) → time_nanos t ≡ o → Fits bits (divided k o)
      by (accepted x) e z q = let w : quot_z x (pos k) ≡ z = cc in rw (← w) (quotient x (read_most t x e))
      by (refused n) e z q = clash q

  kept : (o : Option ℤ) → Fits bits (on_integer (keep (in_type true bits) o))
  kept None = λ z q. clash q
  kept (Some x) = λ z. by_test (in_type true bits x)
      (λ e. rw e (λ q. let w : x ≡ z = cc in rw (← w) e))
      (λ e. rw e (λ q. clash q))

  pub column_fits : (t : List ℕ) → Fits bits (time_column k bits t)
  column_fits t =
      either (divided k (time_nanos t)) (or_else (as_integer bits t) (divided k (time_nanos (trimmed t)))) (in_units t)
      (either (as_integer bits t) (divided k (time_nanos (trimmed t))) (kept (numeral true t)) (in_units (trimmed t)))
