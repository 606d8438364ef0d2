-- What one test says of every entry of a table, or of every number below a bound: antt computes the test over them all.
-- Assumes nothing.
use Rattle.std.proofs.Common.{◌≡◌, ℕ, zero, suc, ◌+◌, ◌<◌, Bool, true, false, T, eqb, List, [], ◌∷◌, length, get_or, sym, ◌∙◌, subst, ⊎_elim, le_of_suc-le-suc, not-suc-le-zero, add-zero, add-suc, suc-add, eq-or-lt_of_le, zero-add, eqb→eq}

abbrev pub both : Bool → Bool → Bool
both true b = b
both false b = false

both_left : (a b : Bool) → T (both a b) → T a
both_left true b t = tt
both_left false b t = t

both_right : (a b : Bool) → T (both a b) → T b
both_right true b t = t
both_right false b t = absurd t

-- the test f passes at each entry of the list and its place, counted from i
abbrev pub every : (ℕ → ℕ → Bool) → ℕ → List ℕ → Bool
every f i [] = true
every f i (x ∷ xs) = both (f i x) (every f (suc i) xs)

from : (f : ℕ → ℕ → Bool) (xs : List ℕ) (i : ℕ) → T (every f i xs) → (k : ℕ) → k < length xs → T (f (i + k) (get_or xs k 0))
from f [] i t k h = absurd (not-suc-le-zero h)
from f (x ∷ xs) i t zero h = subst (λ (m : ℕ). T (f m x)) (sym (add-zero i)) (both_left (f i x) (every f (suc i) xs) t)
from f (x ∷ xs) i t (suc k) h =
    subst (λ (m : ℕ). T (f m (get_or xs k 0))) (suc-add i k ∙ sym (add-suc i k))
    (from f xs (suc i) (both_right (f i x) (every f (suc i) xs) t) k (le_of_suc-le-suc h))

pub at : (f : ℕ → ℕ → Bool) (xs : List ℕ) → T (every f 0 xs) → (k : ℕ) → k < length xs → T (f k (get_or xs k 0))
at f xs t k h = subst (λ (m : ℕ). T (f m (get_or xs k 0))) (zero-add k) (from f xs 0 t k h)

-- an entry is what a function gives of its place
pub entry : (g : ℕ → ℕ) (xs : List ℕ) (k : ℕ) → T (every (λ (i x : ℕ). eqb x (g i)) 0 xs) → k < length xs → get_or xs k 0 ≡ g k
entry g xs k t h = eqb→eq (get_or xs k 0) (g k) (at (λ (i x : ℕ). eqb x (g i)) xs t k h)

-- what a test says of each number below n
abbrev pub all_below : (ℕ → Bool) → ℕ → Bool
all_below f zero = true
all_below f (suc n) = both (f n) (all_below f n)

pub below : (f : ℕ → Bool) (n : ℕ) → T (all_below f n) → (k : ℕ) → k < n → T (f k)
below f zero t k h = absurd (not-suc-le-zero h)
below f (suc n) t k h = ⊎_elim (λ (e : k ≡ n). subst (λ (m : ℕ). T (f m)) (sym e) (both_left (f n) (all_below f n) t)) (λ (l : k < n). below f n (both_right (f n) (all_below f n) t) k l) (eq-or-lt_of_le (le_of_suc-le-suc h))
