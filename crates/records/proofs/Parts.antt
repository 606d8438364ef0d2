-- A record's parts, as the code reads and writes them byte by byte. Assumes nothing.
use mathlib.Core.Path.{◌≡◌, refl, ap, ap₂, ◌∙◌}
use mathlib.Core.List.{List, [], ◌∷◌, ◌++◌}
use Prim.Native.Nat.{ℕ, zero, suc, ◌+◌, ◌^◌, ◌≤◌}
use native.Mathlib.Omega.{arith}
use lib.IntN.{ℤ}
use lib.ListN.{length, get_or, take, drop, length-drop}
use lib.Seq.{take-length, drop-cons, take-append_seam, drop-append_seam}
use Rattle.little_endian.specs.Bytes.{without_sign, number, bytes_of}
use Rattle.little_endian.proofs.Undo.{as_many}
use Rattle.rule.specs.Contribution.{counts}
use Rattle.rule.specs.Meaning.{day_time_of}
use Rattle.records.specs.Answer.{day_time_in, day_time_bytes, month_day_nano_in, month_day_nano_bytes}

-- bytes that are as many as the front's stand in front
pub front : (n : ℕ) (s t : List ℕ) → length s ≡ n → (take n (s ++ t) ≡ s) × (drop n (s ++ t) ≡ t)
front n s t e = rw (← e) (take-append_seam s t, drop-append_seam s t)

-- k items from place i on
abbrev pub items : ℕ → ℕ → List ℕ → List ℕ
items zero i s = []
items (suc k) i s = get_or s i 0 ∷ items k (suc i) s

items_are : (k i : ℕ) (s : List ℕ) → i + k ≤ length s → items k i s ≡ take k (drop i s)
items_are zero i s h = refl
items_are (suc k) i s h = rw (drop-cons s i 0 (omega (arith, h)), items_are k (suc i) s (omega (arith, h))) refl

all_of : (k : ℕ) (s : List ℕ) → length s ≡ k → take k s ≡ s
all_of k s e = rw (← e) (take-length s)

all_items : (k : ℕ) (s : List ℕ) → length s ≡ k → items k 0 s ≡ s
all_items k s e = items_are k 0 s (omega (arith, e)) ∙ all_of k s e

-- ---- what is read

pub day_time_read : (s : List ℕ) {d m : ℤ} → length s ≡ 8 → d ≡ number 4 (items 4 0 s) → m ≡ number 4 (items 4 4 s) → day_time_of d m ≡ day_time_in s
day_time_read s h p q =
    let l : length (drop 4 s) ≡ 4 = omega (arith, length-drop 4 s, h) in
    let millis : items 4 4 s ≡ drop 4 s = items_are 4 4 s (omega (arith, h)) ∙ all_of 4 (drop 4 s) l in
    ap₂ day_time_of (p ∙ ap (number 4) (items_are 4 0 s (omega (arith, h)))) (q ∙ ap (number 4) millis)

pub month_day_nano_read : (s : List ℕ) {m d n : ℤ} → length s ≡ 16 → m ≡ number 4 (items 4 0 s) → d ≡ number 4 (items 4 4 s) → n ≡ number 8 (items 8 8 s)
    → counts m d n ≡ month_day_nano_in s
month_day_nano_read s h p q r =
    let l : length (drop 8 s) ≡ 8 = omega (arith, length-drop 8 s, h) in
    let nanos : items 8 8 s ≡ drop 8 s = items_are 8 8 s (omega (arith, h)) ∙ all_of 8 (drop 8 s) l in
    rw (p, q, r, items_are 4 0 s (omega (arith, h)), items_are 4 4 s (omega (arith, h)), nanos) refl

-- ---- what is written

its_bytes : {s : List ℕ} (k : ℕ) (z : ℤ) → s ≡ bytes_of k z → items k 0 s ≡ bytes_of k z
its_bytes {s} k z e = all_items k s (ap length e ∙ as_many k (without_sign (256 ^ k) z)) ∙ e

pub day_time_written : {a b : List ℕ} (d m : ℤ) → a ≡ bytes_of 4 d → b ≡ bytes_of 4 m → items 4 0 a ++ items 4 0 b ≡ day_time_bytes (day_time_of d m)
day_time_written d m p q = ap₂ ◌++◌ (its_bytes 4 d p) (its_bytes 4 m q)

pub month_day_nano_written : {a b c : List ℕ} (m d n : ℤ) → a ≡ bytes_of 4 m → b ≡ bytes_of 4 d → c ≡ bytes_of 8 n
    → items 4 0 a ++ (items 4 0 b ++ items 8 0 c) ≡ month_day_nano_bytes (counts m d n)
month_day_nano_written m d n p q r = ap₂ ◌++◌ (its_bytes 4 m p) (ap₂ ◌++◌ (its_bytes 4 d q) (its_bytes 8 n r))
