-- The status of a conversion of records: 0 exactly where all records convert (`new_status_0`, `old_status_0`). Assumes nothing.
use mathlib.Core.Path.{◌≡◌, refl}
use mathlib.Core.Logic.{◌↔◌}
use mathlib.Core.List.{List}
use Prim.Native.Nat.{ℕ}
use native.Mathlib.Omega.{arith}
use Rattle.little_endian.specs.Bytes.{Bytes}
use Rattle.records.specs.Slices.{Answer, converted, stays, not_read, Means, accepts, uneven, too_little_room, refuses}
use Rattle.records.specs.Answer.{month_day_nanos, day_times}
use Rattle.records.proofs.Agreement.{to_new, to_old}
use Rattle.cells.specs.Cells.{status_of}

-- all records convert
abbrev pub AllConvert : Answer (List ℕ) → Type 0
AllConvert (converted to) = Unit
AllConvert (stays i) = ⊥
AllConvert (not_read n) = ⊥

by_meaning : {Goes : List ℕ → List ℕ → Type 0} {size other : ℕ} {from : List ℕ} {room : ℕ} {a : Answer (List ℕ)} → Means Goes size other from room a → (status_of a ≡ 0) ↔ AllConvert a
by_meaning (accepts g l) = (λ e. tt, λ c. refl)
by_meaning (uneven h) = (λ e. absurd (omega (arith, e)), λ c. absurd c)
by_meaning (too_little_room k h l) = (λ e. absurd (omega (arith, e)), λ c. absurd c)
by_meaning (refuses k h l f) = (λ e. absurd (omega (arith, e)), λ c. absurd c)

module _ (from : List ℕ) (room : ℕ) (h : Bytes from) where
  -- a status of 0 means that all records convert, and any other that none is written
  pub new_status_0 : (status_of (month_day_nanos from room) ≡ 0) ↔ AllConvert (month_day_nanos from room)
  new_status_0 = by_meaning ((to_new from room h (month_day_nanos from room)).1 refl)

  pub old_status_0 : (status_of (day_times from room) ≡ 0) ↔ AllConvert (day_times from room)
  old_status_0 = by_meaning ((to_old from room h (day_times from room)).1 refl)
