-- Unsigned dates, from the values that the code has of their bytes. Assumes nothing.
use mathlib.Core.Path.{◌≡◌, refl, sym}
use mathlib.Core.Bool.{true, false, cond, ◌&&◌, false≢true}
use mathlib.Core.Logic.{inl}
use mathlib.Core.List.{List, [], ◌∷◌}
use Rattle.std.specs.Prelude.{Option, None, Some}
use Prim.Native.Nat.{ℕ, ◌<◌}
use lib.Dec.{eqb, lit<}
use native.Mathlib.Omega.{arith}
use lib.ListN.{get_or, drop}
use lib.Seq.{drop-drop, get_or-drop}
use lib.IntN.{ℤ, pos}
use Rattle.text.specs.Digits.{is_digit, worth, digit_of, two_digits, two_at}
use Rattle.text.proofs.Logic.{none_some}
use Rattle.text.proofs.Places.{not_sign}
use Rattle.text.proofs.TwoDigits.{sign}
use Rattle.std.proofs.lemmas.Option.{cond_some}
use Rattle.text.proofs.Bools.{and_right, and_false, by_test}
use Rattle.clock.specs.Grammar.{no_digits}
use Rattle.ymd.specs.Forms.{four_digits, four_at, last_day, hyphen_day}
use Rattle.ymd.specs.Helpers.{one_or_two}

-- the second of two digits
second_digit : (s : List ℕ) → two_digits s 0 ≡ true → no_digits (drop 1 s) ≡ false
unfolding no_digits
second_digit [] t = absurd (false≢true t)
second_digit (a ∷ []) t = absurd (false≢true (and_right (is_digit a) false t))
second_digit (a ∷ b ∷ r) t = rw (and_right (is_digit a) (is_digit b) t)

-- f makes something of a number of one or two digits with no digit after them
abbrev pub ended : (ℕ → Option ℤ) → List ℕ → Option ℤ
ended f s =
    cond (two_digits s 0 && no_digits (drop 2 s)) (f (two_at s 0)) (cond (is_digit (get_or s 0 0) && no_digits (drop 1 s)) (f (worth (get_or s 0 0))) None)

module _ (f : ℕ → Option ℤ) (s : List ℕ) where
  pub ended_here : {x : ℕ × List ℕ} → Some x ≡ one_or_two s → cond (no_digits x.1) (f x.0) None ≡ ended f s
  ended_here {x} e =
      by_test (two_digits s 0)
      (λ t.
      let q : ◌≡◌ {A = Option (ℕ × List ℕ)} (Some x) (Some (two_at s 0, drop 2 s)) = rw t at e in
      let r : x ≡ (two_at s 0, drop 2 s) = cc in
      rw (r, t, second_digit s t, and_false (is_digit (get_or s 0 0))))
      (λ t.
      by_test (is_digit (get_or s 0 0))
      (λ u.
      let q : ◌≡◌ {A = Option (ℕ × List ℕ)} (Some x) (Some (worth (get_or s 0 0), drop 1 s)) = rw (t, u) at e in
      let r : x ≡ (worth (get_or s 0 0), drop 1 s) = cc in
      rw (r, t, u))
      (λ u. none_some (sym (rw (t, u) at e))))

-- ---- yyyy-m-d: f makes something of the month and of what is behind its hyphen

abbrev pub hyphened : (ℕ → List ℕ → Option ℤ) → List ℕ → Option ℤ
hyphened f t =
    cond (two_digits t 5 && eqb (get_or t 7 0) 0x2D) (f (two_at t 5) (drop 8 t))
    (cond (is_digit (get_or t 5 0) && eqb (get_or t 6 0) 0x2D) (f (worth (get_or t 5 0)) (drop 7 t)) None)

-- a digit is no hyphen
no_hyphen : (b : ℕ) → is_digit b ≡ true → eqb b 0x2D ≡ false
no_hyphen b e = not_sign b 0x2D e (inl (omega arith))

-- a hyphen less 48 is 253
hyphen_test : (b : ℕ) → b < 256 → eqb (digit_of b) 253 ≡ eqb b 0x2D
hyphen_test b f = sign b 253 0x2D f (lit< tt) refl

module _ (f : ℕ → List ℕ → Option ℤ) (t : List ℕ) where
  pub month_here :
      ((i : ℕ) → get_or t i 0 < 256) → {x : ℕ × List ℕ} → Some x ≡ one_or_two (drop 5 t) →
      cond (eqb (digit_of (get_or x.1 0 0)) 253) (f x.0 (drop 1 x.1)) None ≡ hyphened f t
  month_here fits {x} e =
      by_test (two_digits t 5)
      (λ p.
      let q : ◌≡◌ {A = Option (ℕ × List ℕ)} (Some x) (Some (two_at t 5, drop 7 t)) =
      rw (get_or-drop 5 t 0 0, get_or-drop 5 t 1 0, drop-drop 2 5 t, p) at e in
      let r : x ≡ (two_at t 5, drop 7 t) = cc in
      let n = no_hyphen (get_or t 6 0) (and_right (is_digit (get_or t 5 0)) (is_digit (get_or t 6 0)) p) in
      rw (r, get_or-drop 7 t 0 0, drop-drop 1 7 t, hyphen_test (get_or t 7 0) (fits 7), p, n, and_false (is_digit (get_or t 5 0))))
      (λ p.
      by_test (is_digit (get_or t 5 0))
      (λ u.
      let q : ◌≡◌ {A = Option (ℕ × List ℕ)} (Some x) (Some (worth (get_or t 5 0), drop 6 t)) =
      rw (get_or-drop 5 t 0 0, get_or-drop 5 t 1 0, drop-drop 1 5 t, p, u) at e in
      let r : x ≡ (worth (get_or t 5 0), drop 6 t) = cc in
      rw (r, get_or-drop 6 t 0 0, drop-drop 1 6 t, hyphen_test (get_or t 6 0) (fits 6), p, u))
      (λ u. none_some (sym (rw (get_or-drop 5 t 0 0, get_or-drop 5 t 1 0, p, u) at e))))

  pub no_month : None ≡ one_or_two (drop 5 t) → None ≡ hyphened f t
  no_month e =
      by_test (two_digits t 5)
      (λ p. none_some (rw (get_or-drop 5 t 0 0, get_or-drop 5 t 1 0, p) at e))
      (λ p. by_test (is_digit (get_or t 5 0)) (λ u. none_some (rw (get_or-drop 5 t 0 0, get_or-drop 5 t 1 0, p, u) at e)) (λ u. rw (p, u)))

-- behind a year y of four digits
pub after_year : (t : List ℕ) {y : ℕ} → Some y ≡ cond (four_digits t) (Some (four_at t)) None → hyphened (last_day (pos y)) t ≡ hyphen_day t
after_year t {y} e = let a = cond_some (four_digits t) (four_at t) y (sym e) in rw (a.0, a.1)
