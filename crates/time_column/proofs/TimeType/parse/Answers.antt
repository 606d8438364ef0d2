-- `time_column::TimeType::parse` meets its contract: a time is at most a day and a second. Assumes nothing.
use mathlib.Core.Path.{◌≡◌, sym}
use mathlib.Core.List.{List}
use Prim.Native.Nat.{ℕ, ◌≤◌}
use lib.IntN.{ℤ}
use lib.Signed.{mag}
use borrow.Author.Rules.{rules}
use mir.Syntax.{w64}
use mir.Val.{SFits, to_z, of_z}
use mir.Facts.{to_z-of_z}
use Rattle.refusal.specs.Outcome.{accepted}
use Rattle.time.specs.Answer.{time_nanos}
use Rattle.time.proofs.Bounds.{read_most}
use Rattle.time_column.proofs.TimeType.parse.Goals as goal

of_day : {z : ℤ} (t : List ℕ) → SFits w64 z → accepted z ≡ time_nanos t → mag (to_z w64 (of_z w64 z)) ≤ 86401000000000
of_day {z} t f e = let d = read_most t z (sym e) in rw (to_z-of_z f, d.is) d.most

pub in_unit-requires : goal.in_unit-requires
in_unit-requires g c = of_day _ (record { sfits = (search rules) }) c.in-Ok.ensures

pub in_unit-requires-2 : goal.in_unit-requires-2
in_unit-requires-2 g c = of_day _ (record { sfits = (search rules) }) c.in_ok-nanos.ensures
