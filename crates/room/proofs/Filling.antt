-- Bytes put into a room, as far as it goes. Assumes nothing.
use mathlib.Core.Path.{◌≡◌, refl, sym, ◌∙◌, ap}
use mathlib.Core.List.{List, [], ◌∷◌, ◌++◌, append_assoc}
use Prim.Native.Nat.{ℕ, zero, suc, ◌+◌, ◌-◌, ◌≤◌, min}
use native.Mathlib.Omega.{arith}
use native.Mathlib.Nat.{min_comm}
use lib.ListN.{length, take, length-take}
use Rattle.std.proofs.Math.Seq.{take-append-add}
use Rattle.std.proofs.lemmas.List.{take_min}
use Rattle.std.proofs.lemmas.Slice.{take-put_mid}
use Rattle.room.specs.Room.{appended}

-- as many bytes as there is room for, behind the n that are held
pub as_far : (room n : ℕ) (held s : List ℕ) → length held ≡ n → n ≤ room → held ++ take (min (length s) (room - n)) s ≡ appended room held s
as_far room n held s e h =
    let r : length held + (room - n) ≡ room = omega arith in
    let m : take (min (length s) (room - n)) s ≡ take (room - n) s = ap (λ (k : ℕ). take k s) (min_comm (length s) (room - n)) ∙ take_min (room - n) s in
    ap (λ (x : List ℕ). held ++ x) m ∙ (sym (take-append-add held s (room - n)) ∙ ap (λ (k : ℕ). take k (held ++ s)) r)

cut_twice : (m : ℕ) (x t : List ℕ) → take m (take m x ++ t) ≡ take m (x ++ t)
cut_twice zero x t = refl
cut_twice (suc m) [] t = refl
cut_twice (suc m) (a ∷ x) t = ap (λ (r : List ℕ). a ∷ r) (cut_twice m x t)

-- what is put behind bytes that were put is put behind both
pub twice : (room : ℕ) (held s t : List ℕ) → appended room (appended room held s) t ≡ appended room held (s ++ t)
twice room held s t = cut_twice room (held ++ s) t ∙ ap (take room) (append_assoc held s t)

pub ruleset filling = (as_far, length-take, take-put_mid)
