-- Bytes put into a buffer: what is put behind bytes that were put is put with them. Assumes nothing.
use mathlib.Core.Path.{◌≡◌, refl, sym, ap, ◌∙◌}
use mathlib.Core.List.{List, [], ◌∷◌, ◌++◌}
use Prim.Native.Nat.{ℕ, zero, suc, ◌+◌, ◌-◌, ◌^◌, ◌≤◌, ◌<◌, min}
use native.Mathlib.Omega.{arith}
use lib.Dec.{leb}
use lib.ListN.{length, take, drop}
use borrow.Author.Tests.{leb-true, leb-false, le-leb, lt-leb}
use borrow.Rule.Slice.PartMut.{put_mid}
use Rattle.std.proofs.lemmas.List.{length-append}
use Rattle.text.proofs.Bools.{by_test}
use Rattle.refusal.specs.Outcome.{accepted, refused}
use Rattle.buffer.specs.Buffer.{overwritten, Put}
use Rattle.buffer.specs.Written.{Written}

-- nothing changes the length
pub same_length : (at : ℕ) (w b : List ℕ) → length (overwritten at w b) ≡ length b
unfolding overwritten
same_length at w [] = refl
same_length zero [] (x ∷ b) = refl
same_length zero (c ∷ w) (x ∷ b) = ap suc (same_length zero w b)
same_length (suc k) w (x ∷ b) = ap suc (same_length k w b)

-- at the buffer's end and past it nothing is put
pub past : (at : ℕ) (w b : List ℕ) → length b ≤ at → overwritten at w b ≡ b
unfolding overwritten
past at w [] h = refl
past zero w (x ∷ b) h = absurd (omega arith)
past (suc k) w (x ∷ b) h = ap (λ (r : List ℕ). x ∷ r) (past k w b (omega arith))

nothing : (at : ℕ) (b : List ℕ) → overwritten at [] b ≡ b
unfolding overwritten
nothing at [] = refl
nothing zero (x ∷ b) = refl
nothing (suc k) (x ∷ b) = ap (λ (r : List ℕ). x ∷ r) (nothing k b)

-- what is put behind bytes that were put
behind : (at j : ℕ) (w v b : List ℕ) → j ≡ at + length w → overwritten j v (overwritten at w b) ≡ overwritten at (w ++ v) b
unfolding overwritten
behind at j w v [] e = refl
behind zero zero [] v (x ∷ b) e = refl
behind zero zero (c ∷ w) v (x ∷ b) e = absurd (omega arith)
behind zero (suc j) [] v (x ∷ b) e = absurd (omega arith)
behind zero (suc j) (c ∷ w) v (x ∷ b) e = ap (λ (r : List ℕ). c ∷ r) (behind zero j w v b (omega arith))
behind (suc k) zero w v (x ∷ b) e = absurd (omega arith)
behind (suc k) (suc j) w v (x ∷ b) e = ap (λ (r : List ℕ). x ∷ r) (behind k j w v b (omega arith))

-- what the code copies: k bytes, as many as there are and as there is room for
copied : (at k : ℕ) (w b : List ℕ) → k ≤ length w → at + k ≤ length b → (k < length w → at + k ≡ length b) → put_mid at k b (take k w) ≡ overwritten at w b
unfolding overwritten
copied zero zero w [] h l m = refl
copied (suc at) zero w [] h l m = refl
copied at (suc k) w [] h l m = absurd (omega arith)
copied zero zero [] (x ∷ b) h l m = refl
copied zero zero (c ∷ w) (x ∷ b) h l m = absurd (omega (arith, m (omega arith)))
copied zero (suc k) [] (x ∷ b) h l m = absurd (omega arith)
copied zero (suc k) (c ∷ w) (x ∷ b) h l m = ap (λ (r : List ℕ). c ∷ r) (copied zero k w b (omega arith) (omega arith) (λ g. omega (arith, m (omega arith))))
copied (suc at) k w (x ∷ b) h l m = ap (λ (r : List ℕ). x ∷ r) (copied at k w b h (omega arith) (λ g. omega (arith, m g)))

-- a place that was cut to 64 bits is one past the buffer's end
cut : (p at : ℕ) (w v b : List ℕ) → p ≡ min (at + length w) (2 ^ 64 - 1) → length b < 2 ^ 64 → overwritten p v (overwritten at w b) ≡ overwritten at (w ++ v) b
cut p at w v b e h =
    by_test (leb (at + length w) (2 ^ 64 - 1))
    (λ t. let l : at + length w ≤ 2 ^ 64 - 1 = leb-true (at + length w) (2 ^ 64 - 1) t in behind at p w v b (omega arith))
    (λ t.
    let l : 2 ^ 64 - 1 < at + length w = leb-false (at + length w) (2 ^ 64 - 1) t in
    let same : length (overwritten at w b) ≡ length b = same_length at w b in
    past p v (overwritten at w b) (omega arith) ∙ sym (past (at + length w) v (overwritten at w b) (omega arith)) ∙ behind at (at + length w) w v b refl)

-- what is put behind bytes that were put is put with them
pub then : {at p q : ℕ} {w v a b c : List ℕ} → Put at w a b p → Put p v b c q → Put at (w ++ v) a c q
then {at} {p} {q} {w} {v} {a} {b} {c} m n = record {
  bytes_are = n.bytes_are ∙ rw (m.bytes_are) (cut p at w v a m.end_is m.in_64_bits);
  end_is = omega (arith, m.end_is, n.end_is, length-append w v);
  in_64_bits = m.in_64_bits;
}

-- no bytes
pub no_bytes : (at : ℕ) (b : List ℕ) → at < 2 ^ 64 → length b < 2 ^ 64 → Put at [] b b at
no_bytes at b l h = record { bytes_are = sym (nothing at b); end_is = omega arith; in_64_bits = h }

front : (w a : List ℕ) → length w ≤ length a → overwritten 0 w a ≡ w ++ drop (length w) a
unfolding overwritten
front [] [] l = refl
front [] (x ∷ a) l = refl
front (c ∷ w) [] l = absurd (omega arith)
front (c ∷ w) (x ∷ a) l = ap (λ (r : List ℕ). c ∷ r) (front w a (omega arith))

-- bytes in a buffer that has room for them
pub whole : {w a b : List ℕ} {q : ℕ} → Put 0 w a b q → length w ≤ length a → (b ≡ w ++ drop (length w) a) × (q ≡ length w)
whole {w} {a} m l = (m.bytes_are ∙ front w a l, omega (arith, m.end_is, m.in_64_bits))

-- ---- a text that is put into no room, which counts it, and then into a buffer

pub written : {w a b c : List ℕ} {m n : ℕ} → Put 0 w [] c m → Put 0 w a b n → length w < 2 ^ 64 - 1 → m ≤ length a → Written (accepted w) (accepted n) a b
written {w} {a} p q s h =
    let l : length w ≤ length a = omega (arith, p.end_is) in
    let r = whole q l in
    record { says = rw (le-leb (length w) (length a) l) (ap accepted r.1); leaves = rw (le-leb (length w) (length a) l) (r.0) }

pub too_long : {w a c : List ℕ} {m : ℕ} → Put 0 w [] c m → length a < m → Written (accepted w) (refused 14) a a
too_long {w} {a} p h = let l : length a < length w = omega (arith, p.end_is) in record { says = rw (lt-leb (length w) (length a) l) refl; leaves = rw (lt-leb (length w) (length a) l) refl }

-- ---- what `put` does

pub inside : {at k e : ℕ} {w b ys : List ℕ} → at < length b → length b < 2 ^ 64 → k ≡ min (length w) (length b - at) → ys ≡ take k w
    → e ≡ min (at + length w) (2 ^ 64 - 1) → Put at w b (put_mid at (at + k - at) b ys) e
inside {at} {k} {e} {w} {b} {ys} h l p q r =
    let s : at + k - at ≡ k = omega arith in
    record {
      bytes_are = rw (s, q) (copied at k w b (omega arith) (omega arith) (λ g. omega arith));
      end_is = r;
      in_64_bits = l;
    }

pub outside : {at e : ℕ} {w b : List ℕ} → length b ≤ at → length b < 2 ^ 64 → e ≡ min (at + length w) (2 ^ 64 - 1) → Put at w b b e
outside {at} {e} {w} {b} h l r = record { bytes_are = sym (past at w b h); end_is = r; in_64_bits = l }
