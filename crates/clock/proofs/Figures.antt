-- Fields of digits, byte by byte, and the fraction behind them. Assumes nothing.
use mathlib.Core.Path.{◌≡◌, refl}
use mathlib.Core.Bool.{true}
use mathlib.Core.List.{List, [], ◌∷◌, ◌++◌, append-nil}
use Prim.Native.Nat.{ℕ, suc, ◌-◌}
use native.Mathlib.Omega.{arith}
use lib.Dec.{lit<}
use lib.ListN.{length, get_or}
use Rattle.text.specs.Digits.{is_digit, digits}
use Rattle.utf8.specs.Utf8.{ascii}
use Rattle.utf8.proofs.Ascii.{ascii_nil, ascii_cons, ascii_digits}
use Rattle.text.proofs.DigitLists.{digits_head, all_digits, last_digit}
use Rattle.text.proofs.Places.{last_of}
use Rattle.clock.specs.Grammar.{Figures, figures, Secfrac, no_fraction, fraction}

-- what holds of every digit holds of a number of one digit, and so on
pub by_one : (P : List ℕ → Type 0) → ((a : ℕ) → is_digit a ≡ true → P (a ∷ [])) → (t : List ℕ) → Figures 1 t → P t
by_one P f t (figures h e) = by t h e
  where
    by : (t : List ℕ) → length t ≡ 1 → digits t ≡ true → P t
    by [] h e = absurd (omega arith)
    by (a ∷ []) h e = f a (digits_head a [] e).0
    by (a ∷ b ∷ t) h e = absurd (omega arith)

pub by_two : (P : List ℕ → Type 0) → ((a b : ℕ) → is_digit a ≡ true → is_digit b ≡ true → P (a ∷ b ∷ [])) → (t : List ℕ) → Figures 2 t → P t
by_two P f t (figures h e) = by t h e
  where
    by : (t : List ℕ) → length t ≡ 2 → digits t ≡ true → P t
    by [] h e = absurd (omega arith)
    by (a ∷ []) h e = absurd (omega arith)
    by (a ∷ b ∷ []) h e = let x = digits_head a (b ∷ []) e in f a b x.0 (digits_head b [] x.1).0
    by (a ∷ b ∷ c ∷ t) h e = absurd (omega arith)

pub by_four : (P : List ℕ → Type 0) → ((a b c d : ℕ) → is_digit a ≡ true → is_digit b ≡ true → is_digit c ≡ true → is_digit d ≡ true → P (a ∷ b ∷ c ∷ d ∷ [])) → (t : List ℕ) → Figures 4 t → P t
by_four P f t (figures h e) = by t h e
  where
    by : (t : List ℕ) → length t ≡ 4 → digits t ≡ true → P t
    by [] h e = absurd (omega arith)
    by (a ∷ []) h e = absurd (omega arith)
    by (a ∷ b ∷ []) h e = absurd (omega arith)
    by (a ∷ b ∷ c ∷ []) h e = absurd (omega arith)
    by (a ∷ b ∷ c ∷ d ∷ []) h e =
        let x = digits_head a (b ∷ c ∷ d ∷ []) e in
        let y = digits_head b (c ∷ d ∷ []) x.1 in
        let z = digits_head c (d ∷ []) y.1 in
        f a b c d x.0 y.0 z.0 (digits_head d [] z.1).0
    by (a ∷ b ∷ c ∷ d ∷ g ∷ t) h e = absurd (omega arith)

-- and of three numbers of two digits: an hour, a minute and a second
pub by_fields : (P : List ℕ → List ℕ → List ℕ → Type 0) → ((a b c d g i : ℕ) → is_digit a ≡ true → is_digit b ≡ true → is_digit c ≡ true → is_digit d ≡ true → is_digit g ≡ true → is_digit i ≡ true → P (a ∷ b ∷ []) (c ∷ d ∷ []) (g ∷ i ∷ [])) → (h m s : List ℕ) → Figures 2 h → Figures 2 m → Figures 2 s → P h m s
by_fields P k h m s p q u =
    by_two (λ h. P h m s)
    (λ a b fa fb.
    by_two (λ m. P (a ∷ b ∷ []) m s)
    (λ c d fc fd. by_two (λ s. P (a ∷ b ∷ []) (c ∷ d ∷ []) s) (λ g i fg fi. k a b c d g i fa fb fc fd fg fi) s u) m q) h p

-- and the other way round
pub one_figure : (a : ℕ) → is_digit a ≡ true → Figures 1 (a ∷ [])
unfolding digits
one_figure a p = figures {t = a ∷ []} refl (rw p)

pub two_figures : (a b : ℕ) → is_digit a ≡ true → is_digit b ≡ true → Figures 2 (a ∷ b ∷ [])
unfolding digits
two_figures a b p q = figures {t = a ∷ b ∷ []} refl (rw (p, q))

pub four_figures : (a b c d : ℕ) → is_digit a ≡ true → is_digit b ≡ true → is_digit c ≡ true → is_digit d ≡ true → Figures 4 (a ∷ b ∷ c ∷ d ∷ [])
unfolding digits
four_figures a b c d p q r s = figures {t = a ∷ b ∷ c ∷ d ∷ []} refl (rw (p, q, r, s))

-- ---- their size, their last byte, and that they are ASCII

pub size_of : {n : ℕ} {t : List ℕ} → Figures n t → length t ≡ n
size_of (figures h e) = h

pub last_figure : {n : ℕ} {t : List ℕ} → Figures (suc n) t → is_digit (get_or t (length t - 1) 0) ≡ true
last_figure {n} {t} (figures h e) = by t h e
  where
    by : (t : List ℕ) → length t ≡ suc n → digits t ≡ true → is_digit (get_or t (length t - 1) 0) ≡ true
    by [] h e = absurd (omega arith)
    by (b ∷ t) h e = last_digit b t e

-- seconds and perhaps a fraction end with a digit
pub seconds_end : {s x f : List ℕ} → Figures 2 s → Secfrac x f → is_digit (get_or (s ++ x) (length (s ++ x) - 1) 0) ≡ true
seconds_end {s} u no_fraction = rw append-nil (last_figure u)
seconds_end {s} u (fraction {b} {f} p q) =
    rw (last_of s (0x2E ∷ b ∷ f) (omega arith), last_of (0x2E ∷ []) (b ∷ f) (omega arith)) (last_digit b f (all_digits b f p q))

pub ascii_figures : {n : ℕ} {t : List ℕ} → Figures n t → ascii t ≡ true
ascii_figures {n} {t} (figures h e) = ascii_digits t e

pub ascii_secfrac : {x f : List ℕ} → Secfrac x f → ascii x ≡ true
ascii_secfrac no_fraction = ascii_nil
ascii_secfrac (fraction {b} {f} p q) = ascii_cons 0x2E (b ∷ f) (lit< tt) (ascii_digits (b ∷ f) (all_digits b f p q))
