-- The parts of a signed date that its first hyphen makes. Assumes nothing.
use mathlib.Core.Path.{◌≡◌, sym}
use mathlib.Core.Bool.{true, cond}
use mathlib.Core.List.{List}
use Rattle.std.specs.Prelude.{Option, None, Some}
use Prim.Native.Nat.{ℕ, ◌+◌, ◌≤◌, ◌<◌}
use native.Mathlib.Omega.{arith}
use lib.Dec.{ltb}
use lib.IntN.{ℤ}
use lib.ListN.{length, take, drop, length-drop}
use borrow.Author.Tests.{le-leb, lt-ltb, ltb-true}
use Rattle.std.proofs.lemmas.Option.{cond_some}
use Rattle.number.specs.Decimal.{integer}
use Rattle.ymd.specs.Forms.{to_hyphen, month_day, extended_ymd}

-- the place of the first hyphen, if there is one
abbrev pub hyphen : List ℕ → Option ℕ
hyphen t = cond (ltb (to_hyphen t) (length t)) (Some (to_hyphen t)) None

module _ (s : List ℕ) {h : ℕ} (e : Some h ≡ hyphen (drop 1 s)) where
  is_here : (to_hyphen (drop 1 s) ≡ h) × (h + 1 < length s)
  is_here =
      let n = to_hyphen (drop 1 s) in
      let r = cond_some (ltb n (length (drop 1 s))) n h (sym e) in
      (r.1, omega (arith, ltb-true n (length (drop 1 s)) r.0, length-drop 1 s, r.1))

  pub in_parts : {y : ℤ} → 4 ≤ h → Some y ≡ integer true 32 (take (h + 1) s) → month_day (Some y) (to_hyphen (drop (h + 2) s)) (drop (h + 2) s) ≡ extended_ymd s
  unfolding extended_ymd
  in_parts l i = rw (is_here.0, le-leb 4 h l, lt-ltb (h + 1) (length s) is_here.1, ← i)
