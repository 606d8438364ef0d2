-- "Old to new to old is the identity; new to old to new too where the first step succeeds", on bytes; and every old record goes. Assumes nothing.
use mathlib.Core.Path.{◌≡◌, sym, ◌∙◌}
use mathlib.Core.List.{List}
use Prim.Native.Nat.{ℕ, ◌*◌, ◌≤◌}
use native.Mathlib.Omega.{arith}
use lib.Dec.{lit<}
use lib.ListN.{length}
use Rattle.little_endian.specs.Bytes.{Bytes}
use Rattle.records.specs.Records.{Converts}
use Rattle.records.specs.Slices.{converted, AllGo, none, one, Means, accepts}
use Rattle.records.specs.Answer.{new_record, month_day_nanos, day_times}
use Rattle.records.proofs.Single.{new, sizes}
use Rattle.records.specs.Helpers.{joined}
use Rattle.records.proofs.Agreement.{Gone, gone, with_room, to_new, to_old}
use Rattle.records.proofs.Calls.{all_go, none_stays}
use Rattle.std.specs.Simd.{first_chunks}

-- what goes one way goes back the other
back : {Goes Back : List ℕ → List ℕ → Type 0} {size other : ℕ} → ((a b : List ℕ) → Goes a b → Back b a) → {from to : List ℕ} → AllGo Goes size other from to
    → AllGo Back other size to from
back flip none = none
back flip (one {a} {b} g more) = one (flip a b g) (back flip more)

counted : {from to : List ℕ} → AllGo Converts 8 16 from to → Gone Converts new_record 8 16 (lit< tt) new (λ a b g. sizes g) from to
counted g = gone Converts new_record 8 16 (lit< tt) new (λ a b g. sizes g) g

went : {Goes : List ℕ → List ℕ → Type 0} {size other : ℕ} {from to : List ℕ} {room : ℕ} → Means Goes size other from room (converted to) → AllGo Goes size other from to
went (accepts g l) = g

-- "every old record goes": k of them, where there is room for k new ones
pub every_one_goes : (k : ℕ) (from : List ℕ) (room : ℕ) → Bytes from → length from ≡ k * 8 → k * 16 ≤ room
    → (to : List ℕ) × ((month_day_nanos from room ≡ converted to) × (length to ≡ k * 16))
every_one_goes k from room h e l =
    let records : List (List ℕ) = first_chunks 8 k from in
    let to : List ℕ = joined new_record records in
    let q : month_day_nanos from room ≡ converted to =
    with_room Converts new_record 8 16 (lit< tt) new (λ a b g. sizes g) from room k e l ∙ all_go new_record 0 records (none_stays 0 records) in
    let g = counted (went ((to_new from room h (converted to)).1 q)) in
    let n : g.count * 8 ≡ k * 8 = sym g.from_long ∙ e in
    (to, (q, omega (arith, g.to_long, n)))

module _ (from to : List ℕ) (room back_room : ℕ) (h : Bytes from) (l : length from ≤ back_room) where
  -- old to new to old
  pub old_new_old : month_day_nanos from room ≡ converted to → day_times to back_room ≡ converted from
  old_new_old e =
      let g = went ((to_new from room h (converted to)).1 e) in
      (to_old to back_room (counted g).are_bytes.1 (converted from)).0 (accepts (back (λ a b q. q) g) l)

  -- new to old to new, where the first step succeeds
  pub new_old_new : day_times from room ≡ converted to → month_day_nanos to back_room ≡ converted from
  new_old_new e =
      let g = back (λ a b q. q) (went ((to_old from room h (converted to)).1 e)) in
      (to_new to back_room (counted g).are_bytes.0 (converted from)).0 (accepts g l)
