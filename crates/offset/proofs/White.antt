-- White space in front, character by character. Assumes nothing.
use mathlib.Core.Path.{◌≡◌, refl, ap, ◌∙◌}
use mathlib.Core.List.{List, [], ◌∷◌}
use Prim.Native.Nat.{ℕ, zero, suc, ◌-◌}
use native.Mathlib.Omega.{arith}
use lib.ListN.{drop}
use borrow.Author.Tests.{ne_eqb}
use Rattle.white.specs.WhiteSpace.{white_len}
use Rattle.white.proofs.WhiteAgrees.{at_end}
use Rattle.offset.specs.Answer.{drop_white}

-- where no white space stands, all is left
pub none_here : (t : List ℕ) → white_len t ≡ 0 → drop_white 0 t ≡ t
unfolding drop_white
none_here [] e = refl
none_here (b ∷ t) e = rw e

-- the rest of a character is passed over
over : (n : ℕ) (t : List ℕ) → drop_white n t ≡ drop_white 0 (drop n t)
unfolding drop_white
over zero t = refl
over (suc n) [] = refl
over (suc n) (b ∷ t) = over n t

-- behind a white space character it goes on
pub one_less : (t : List ℕ) → (white_len t ≡ 0 → ⊥) → drop_white 0 t ≡ drop_white 0 (drop (white_len t) t)
unfolding drop_white
one_less [] h = absurd (h at_end)
one_less (b ∷ t) h =
    let n : ℕ = white_len (b ∷ t) in
    let back : suc (n - 1) ≡ n = omega arith in
    rw (ne_eqb n 0 h) (over (n - 1) t ∙ ap (λ (k : ℕ). drop_white 0 (drop k (b ∷ t))) back)
