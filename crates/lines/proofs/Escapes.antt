-- What stands in front of a text that a line writes, and the text that is left to write behind it. Assumes nothing.
use mathlib.Core.Path.{◌≡◌, refl, ◌∙◌, ap}
use mathlib.Core.Bool.{Bool, true, false, cond}
use mathlib.Core.List.{List, [], ◌∷◌, ◌++◌, append-nil}
use Prim.Native.Nat.{ℕ, zero, suc, ◌≤◌, ◌<◌}
use native.Mathlib.Omega.{arith}
use lib.ListN.{length, take, drop, get_or, get_or-eq_default}
use lib.Seq.{take_all}
use Rattle.std.specs.Prelude.{Option, None, Some}
use Rattle.lines.specs.Escape.{pair_worth, hex_worth, escaped, written, unescaped_past, unescaped}
use Rattle.room.proofs.Filling.{twice}

past : (k : ℕ) (t : List ℕ) → unescaped_past k t ≡ unescaped (drop k t)
unfolding unescaped_past unescaped
past zero t = refl
past (suc k) [] = refl
past (suc k) (b ∷ t) = past k t

step : (b : ℕ) (t : List ℕ) → unescaped (b ∷ t) ≡ written (escaped (b ∷ t)) b (unescaped (drop 3 t)) (unescaped t)
unfolding unescaped_past unescaped
step b t = ap (λ (r : List ℕ). written (escaped (b ∷ t)) b r (unescaped_past 0 t)) (past 3 t)

pub as_escaped : (s : List ℕ) (x : ℕ) → escaped s ≡ Some x → 0 < length s → unescaped s ≡ x ∷ unescaped (drop 4 s)
as_escaped [] x e h = absurd (omega (arith, h))
as_escaped (b ∷ t) x e h = step b t ∙ rw e

pub as_it_stands : (b : ℕ) (t : List ℕ) → escaped (b ∷ t) ≡ None → unescaped (b ∷ t) ≡ b ∷ unescaped t
as_it_stands b t e = step b t ∙ rw e

no_pair : (test : Bool) (x : Option ℕ) → cond test (pair_worth x None) None ≡ None
no_pair true None = refl
no_pair true (Some x) = refl
no_pair false x = refl

-- fewer than four bytes are no escape
pub too_short : (s : List ℕ) → length s < 4 → escaped s ≡ None
unfolding escaped hex_worth
too_short s h =
    let q : get_or s 3 0 ≡ 0 = get_or-eq_default s 0 (omega arith) in
    rw q (no_pair _ (hex_worth (get_or s 2 0)))

-- nothing is left to put
pub all_put : (room : ℕ) (held rest : List ℕ) → rest ≡ [] → length held ≤ room → take room (held ++ unescaped rest) ≡ held
unfolding unescaped_past unescaped
all_put room held rest e h = rw (e, append-nil held) (take_all room held h)

pub ruleset unescaping = (twice, all_put)
