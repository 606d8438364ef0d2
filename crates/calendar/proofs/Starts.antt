-- The table of year starts: a list of 401 entries that one test, which antt computes, finds right at every entry. Assumes nothing.
use mathlib.Core.Path.{◌≡◌, refl}
use mathlib.Core.Bool.{Bool}
use mathlib.Core.List.{List}
use Prim.Native.Nat.{ℕ, ◌<◌}
use native.Mathlib.Omega.{arith}
use lib.Dec.{T, eqb}
use lib.ListN.{length, get_or}
use Rattle.text.proofs.Computed.{every, entry}
use Rattle.calendar.specs.Cycle.{start, YearStarts}
use Rattle.calendar.specs.declared.cycle.TheConstants.{STARTS}

-- each entry is the start of the year at its place
abbrev pub right : List ℕ → Bool
right xs = every (λ (i x : ℕ). eqb x (start i)) 0 xs

pub is_table : (xs : List ℕ) → length xs ≡ 401 → T (right xs) → YearStarts xs
unfolding YearStarts
is_table xs len t = (len, λ y h. entry start xs y t (omega (arith, len)))

-- the code's table is right
pub year_starts : YearStarts STARTS
unfolding start
year_starts = is_table STARTS refl tt

-- what it holds
pub year_start : (y : ℕ) → y < 401 → get_or STARTS y 0 ≡ start y
unfolding YearStarts
year_start y h = year_starts.1 y h
