-- Parts of a text, as a function hands them on. Assumes nothing.
use Rattle.std.proofs.Common.{◌≡◌, ℕ, ◌-◌, List, length, take, drop, arith, length-drop, take_all}

-- `&s[i..]` is the rest from i on
pub rest : (s : List ℕ) (i : ℕ) → take (length s - i) (drop i s) ≡ drop i s
rest s i = take_all (length s - i) (drop i s) (omega (arith, length-drop i s))
