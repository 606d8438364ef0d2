-- How long a time of day is. Assumes nothing.
use mathlib.Core.Path.{◌≡◌, refl}
use mathlib.Core.List.{List}
use Prim.Native.Nat.{ℕ, ◌≤◌, ◌<◌}
use native.Mathlib.Omega.{arith}
use lib.IntN.{ℤ, pos}
use Rattle.refusal.specs.Outcome.{accepted}
use Rattle.text.specs.Digits.{value}
use Rattle.clock.specs.Clock.{Clock, nanos_of}
use Rattle.clock.proofs.Bounds.{secfrac_most, clock_most}
use Rattle.time.specs.Grammar.{Written, minutes, seconds, TimeOfDay, full, Reads, reads}
use Rattle.time.specs.Grammar as Grammar
use Rattle.time.specs.Answer.{time_nanos}
use Rattle.time.proofs.Agreement.{agrees}

written_most : {t : List ℕ} {c : Clock} → Written t c → nanos_of c.fraction < 1000000000
unfolding nanos_of value
written_most (minutes h m p q) = omega arith
written_most (seconds h m s x f p q r v) = secfrac_most v

pub time_most : {t : List ℕ} {c : Clock} → TimeOfDay t c → nanos_of c.fraction < 1000000000
time_most (full w) = written_most w
time_most (Grammar.am a b w p q x y) = written_most w
time_most (Grammar.pm a b w p q x y) = written_most w

-- a number of nanoseconds that is at most a day and a second
pub record OfDay (z : ℤ) : Type 0 where
  pub count : ℕ
  pub is : z ≡ pos count
  pub most : count ≤ 86401000000000

pub read_most : (t : List ℕ) (z : ℤ) → time_nanos t ≡ accepted z → OfDay z
read_most t z e = by ((agrees t z).1 e)
  where
    by : {z : ℤ} → Reads t z → OfDay z
    by (reads {c = c} d ok) = record { count = _; is = refl; most = clock_most c (time_most d) ok }
