-- The texts of offsets of the grammar are those that the computation reads, with the same offset; and how they begin and end.
-- Assumes nothing.
use mathlib.Core.Path.{◌≡◌, refl, sym, ap, ◌∙◌, subst}
use mathlib.Core.Bool.{Bool, true, ◌&&◌, ◌||◌}
use mathlib.Core.Logic.{◌⊎◌, inl, inr, ⊎_elim, ◌↔◌}
use mathlib.Core.List.{List, [], ◌∷◌, ◌++◌, append_assoc}
use Rattle.std.specs.Prelude.{Some}
use Prim.Native.Nat.{ℕ, zero, suc, ◌+◌, ◌-◌, ◌*◌, ◌≤◌, ◌<◌}
use native.Mathlib.Omega.{arith}
use lib.Dec.{eqb, lit<}
use lib.ListN.{length, get_or, take, drop, length-append, length-drop, take-append-drop}
use lib.Seq.{drop_at, length-take-le}
use borrow.Author.Tests.{eqb-true}
use Rattle.text.specs.Digits.{is_digit, worth, value}
use Rattle.text.proofs.Bools.{and_false, or_cases, by_test}
use Rattle.text.proofs.DigitLists.{two_value}
use Rattle.text.proofs.Logic.{both, none_some}
use Rattle.text.proofs.Places.{last_of}
use Rattle.utf8.specs.Utf8.{Utf8, nothing, ascii}
use Rattle.utf8.proofs.Ascii.{ascii_cons, ascii_append, ascii_utf8, ascii_then}
use Rattle.utf8.proofs.Utf8Agrees as utf
use Rattle.white.specs.WhiteSpace.{white_len}
use Rattle.white.proofs.WhiteAgrees.{found, measures}
use Rattle.white.proofs.Characters.{lead, white_some, white_utf8, not_white}
use Rattle.clock.specs.Grammar.{Figures}
use Rattle.clock.proofs.Figures.{by_two, two_figures, size_of, last_figure, ascii_figures}
use Rattle.offset.specs.declared.Offset.{Offset}
use Rattle.offset.specs.Grammar.{offset, Blanks, no_blank, blank, Sign, plus, minus, time_numoffset, Numoffset, extended, basic, hours, Numeric, numeric, Ending, none_given, capital_z, small_z, in_figures}
use Rattle.offset.specs.Answer.{drop_white, minute_of, with_hour, numoffset, offset_of}
use Rattle.offset.proofs.White.{none_here, one_less}

-- ---- an offset of the grammar is read

sign_read : {b : ℕ} {s : Bool} → Sign b s → (eqb b 0x2B || eqb b 0x2D ≡ true) × (eqb b 0x2D ≡ s)
sign_read plus = (refl, refl)
sign_read minus = (refl, refl)

numoffset_read : {x : List ℕ} {o : Offset} → Numoffset x o → numoffset x ≡ Some o
unfolding numoffset minute_of
numoffset_read (extended (time_numoffset b h m {s} p q r)) =
    let y = sign_read p in
    by_two (λ h. numoffset (b ∷ (h ++ (0x3A ∷ m))) ≡ Some (offset s (value 0 h) (value 0 m)))
    (λ a c fa fc.
    by_two (λ m. numoffset (b ∷ a ∷ c ∷ 0x3A ∷ m) ≡ Some (offset s (value 0 (a ∷ c ∷ [])) (value 0 m)))
    (λ d e fd fe. rw (y.0, y.1, fa, fc, fd, fe, two_value a c, two_value d e)) m r) h q
numoffset_read (basic b h m {s} p q r) =
    let y = sign_read p in
    by_two (λ h. numoffset (b ∷ (h ++ m)) ≡ Some (offset s (value 0 h) (value 0 m)))
    (λ a c fa fc.
    by_two (λ m. numoffset (b ∷ a ∷ c ∷ m) ≡ Some (offset s (value 0 (a ∷ c ∷ [])) (value 0 m)))
    (λ d e fd fe. rw (y.0, y.1, fa, fc, fd, fe, two_value a c, two_value d e)) m r) h q
numoffset_read (hours b h {s} p q) =
    let y = sign_read p in
    by_two (λ h. numoffset (b ∷ h) ≡ Some (offset s (value 0 h) 0)) (λ a c fa fc. rw (y.0, y.1, fa, fc, two_value a c)) h q

-- it begins with its sign, which is no white space
by_sign : {b : ℕ} {s : Bool} → Sign b s → (t : List ℕ) → white_len (b ∷ t) ≡ 0
by_sign plus t = not_white 0x2B t (lit< tt) (lit< tt)
by_sign minus t = not_white 0x2D t (lit< tt) (lit< tt)

signed : {x : List ℕ} {o : Offset} → Numoffset x o → white_len x ≡ 0
signed (extended (time_numoffset b h m p q r)) = by_sign p (h ++ (0x3A ∷ m))
signed (basic b h m p q r) = by_sign p (h ++ m)
signed (hours b h p q) = by_sign p h

-- white space before what is none is passed over
blanks_read : {w : List ℕ} → Blanks w → (x : List ℕ) → white_len x ≡ 0 → drop_white 0 (w ++ x) ≡ x
blanks_read no_blank x e = none_here x e
blanks_read (blank {w} {t} W B) x e =
    let m = measures W (t ++ x) in
    let s : (w ++ t) ++ x ≡ w ++ (t ++ x) = simp append_assoc in
    let n : white_len (w ++ (t ++ x)) ≡ 0 → ⊥ = (λ z. omega (arith, white_some W, m)) in
    rw s (one_less (w ++ (t ++ x)) n ∙ rw (m, drop_at w (t ++ x) (length w) refl) (blanks_read B x e))

pub read : {t : List ℕ} {o : Offset} → Numeric t o → offset_of t ≡ Some o
read (numeric w x B p) = rw (blanks_read B x (signed p)) (numoffset_read p)

-- ---- an offset that is read is one of the grammar

sign_of : (b : ℕ) → eqb b 0x2B || eqb b 0x2D ≡ true → Sign b (eqb b 0x2D)
sign_of b e =
    ⊎_elim (λ p. rw (eqb-true b 0x2B p) plus) (λ p. rw (eqb-true b 0x2D p) minus) (or_cases (eqb b 0x2B) (eqb b 0x2D) e)

module _ (b h i : ℕ) (S : Sign b (eqb b 0x2D)) (fh : is_digit h ≡ true) (fi : is_digit i ≡ true) where
  abbrev hour : ℕ
  hour = worth h * 10 + worth i

  H : Figures 2 (h ∷ i ∷ [])
  H = two_figures h i fh fi

  -- the offset with these minutes
  behind_hours : (r : List ℕ) (o : Offset) → with_hour (eqb b 0x2D) hour (minute_of r) ≡ Some o → Numoffset (b ∷ h ∷ i ∷ r) o
  unfolding minute_of
  behind_hours [] o e =
      let q : offset (eqb b 0x2D) hour 0 ≡ o = cc in
      rw (← q, ← two_value h i) (hours b (h ∷ i ∷ []) S H)
  behind_hours (a ∷ []) o e = none_some e
  behind_hours (a ∷ c ∷ []) o e =
      by_test (is_digit a && is_digit c)
      (λ p.
      let f = both (is_digit a) (is_digit c) p in
      let q : Some (offset (eqb b 0x2D) hour (worth a * 10 + worth c)) ≡ Some o = rw p at e in
      let w : offset (eqb b 0x2D) hour (worth a * 10 + worth c) ≡ o = cc in
      rw (← w, ← two_value h i, ← two_value a c) (basic b (h ∷ i ∷ []) (a ∷ c ∷ []) S H (two_figures a c f.0 f.1)))
      (λ p. none_some (rw p at e))
  behind_hours (k ∷ a ∷ c ∷ []) o e =
      by_test (eqb k 0x3A && (is_digit a && is_digit c))
      (λ p.
      let g = both (eqb k 0x3A) (is_digit a && is_digit c) p in
      let f = both (is_digit a) (is_digit c) g.1 in
      let q : Some (offset (eqb b 0x2D) hour (worth a * 10 + worth c)) ≡ Some o = rw p at e in
      let w : offset (eqb b 0x2D) hour (worth a * 10 + worth c) ≡ o = cc in
      rw (eqb-true k 0x3A g.0, ← w, ← two_value h i, ← two_value a c) (extended (time_numoffset b (h ∷ i ∷ []) (a ∷ c ∷ []) S H (two_figures a c f.0 f.1))))
      (λ p. none_some (rw p at e))
  behind_hours (a ∷ c ∷ d ∷ f ∷ r) o e = none_some e

numoffset_sound : (x : List ℕ) (o : Offset) → numoffset x ≡ Some o → Numoffset x o
unfolding numoffset
numoffset_sound [] o e = none_some e
numoffset_sound (b ∷ []) o e = none_some (rw (and_false (eqb b 0x2B || eqb b 0x2D)) at e)
numoffset_sound (b ∷ h ∷ []) o e = none_some (rw (and_false (is_digit h), and_false (eqb b 0x2B || eqb b 0x2D)) at e)
numoffset_sound (b ∷ h ∷ i ∷ r) o e =
    by_test ((eqb b 0x2B || eqb b 0x2D) && (is_digit h && is_digit i))
    (λ p.
    let f = both (eqb b 0x2B || eqb b 0x2D) (is_digit h && is_digit i) p in
    let g = both (is_digit h) (is_digit i) f.1 in
    behind_hours b h i (sign_of b f.0) g.0 g.1 r o (rw p at e))
    (λ p. none_some (rw p at e))

-- the white space in front, and what is left
record Parted (t : List ℕ) : Type 0 where
  bytes : List ℕ
  blanks : Blanks bytes
  text : t ≡ bytes ++ drop_white 0 t

nothing_here : (t : List ℕ) → white_len t ≡ 0 → Parted t
nothing_here t e = record { bytes = []; blanks = no_blank; text = sym (none_here t e) }

parted : (k : ℕ) (t : List ℕ) → length t ≤ k → Parted t
parted zero t h = ⊎_elim (λ e. nothing_here t e) (λ e. absurd (omega (arith, white_some e.0, e.1, length-take-le (white_len t) t e.1))) (found t)
parted (suc k) t h =
    ⊎_elim (λ e. nothing_here t e)
    (λ e.
    let n : ℕ = white_len t in
    let some : 0 < n = omega (arith, white_some e.0, length-take-le n t e.1) in
    let x = parted k (drop n t) (omega (arith, length-drop n t)) in
    let q : drop_white 0 t ≡ drop_white 0 (drop n t) = one_less t (λ z. omega arith) in
    record {
      bytes = take n t ++ x.bytes;
      blanks = blank e.0 x.blanks;
      text = sym (take-append-drop n t) ∙ ap (λ (r : List ℕ). take n t ++ r) (x.text ∙ ap (λ (r : List ℕ). x.bytes ++ r) (sym q)) ∙ sym (append_assoc (take n t) x.bytes (drop_white 0 t));
    })
    (found t)

pub sound : (t : List ℕ) (o : Offset) → offset_of t ≡ Some o → Numeric t o
sound t o e =
    let x = parted (length t) t (omega arith) in
    subst (λ (u : List ℕ). Numeric u o) (sym x.text) (numeric x.bytes (drop_white 0 t) x.blanks (numoffset_sound (drop_white 0 t) o e))

-- a text is an offset exactly where it is read as that offset
pub agrees : (t : List ℕ) (o : Offset) → Numeric t o ↔ (offset_of t ≡ Some o)
agrees t o = (read, sound t o)

-- ---- how it begins and ends

-- no digit and no point stands in front
pub record Front (t : List ℕ) : Type 0 where
  pub first : ℕ
  pub others : List ℕ
  pub begins : t ≡ first ∷ others
  pub other : (first < 0x2E) ⊎ (0x39 < first)

sign_front : {b : ℕ} {s : Bool} → Sign b s → (t : List ℕ) → Front (b ∷ t)
sign_front plus t = record { first = 0x2B; others = t; begins = refl; other = inl (lit< tt) }
sign_front minus t = record { first = 0x2D; others = t; begins = refl; other = inl (lit< tt) }

figures_front : {x : List ℕ} {o : Offset} → Numoffset x o → Front x
figures_front (extended (time_numoffset b h m p q r)) = sign_front p (h ++ (0x3A ∷ m))
figures_front (basic b h m p q r) = sign_front p (h ++ m)
figures_front (hours b h p q) = sign_front p h

pub front : {t : List ℕ} {o : Offset} → Numeric t o → Front t
front (numeric v x no_blank p) = figures_front p
front (numeric v x (blank {w} {t} W B) p) =
    let l = lead W in
    record {
      first = l.first;
      others = l.others ++ (t ++ x);
      begins = append_assoc w t x ∙ ap (λ (r : List ℕ). r ++ (t ++ x)) l.begins;
      other = ⊎_elim (λ h. inl (omega arith)) (λ h. inr (omega arith)) l.outside;
    }

-- the last byte is a digit
abbrev Ends : List ℕ → Type 0
Ends t = is_digit (get_or t (length t - 1) 0) ≡ true

two_last : (p : List ℕ) {m : List ℕ} → Figures 2 m → Ends (p ++ m) × (0 < length (p ++ m))
two_last p {m} r = (rw (last_of p m (omega (arith, size_of r))) (last_figure r), omega (arith, size_of r, length-append p m))

figures_last : {x : List ℕ} {o : Offset} → Numoffset x o → Ends x × (0 < length x)
figures_last (extended (time_numoffset b h m p q r)) =
    let e = two_last (0x3A ∷ []) r in (rw (last_of (b ∷ h) (0x3A ∷ m) e.1) e.0, omega arith)
figures_last (basic b h m p q r) = two_last (b ∷ h) r
figures_last (hours b h p q) = two_last (b ∷ []) q

pub last : {t : List ℕ} {o : Offset} → Numeric t o → Ends t
last (numeric w x B p) = let e = figures_last p in rw (last_of w x e.1) e.0

-- ---- it is UTF-8

sign_ascii : {b : ℕ} {s : Bool} → Sign b s → b < 0x80
sign_ascii plus = lit< tt
sign_ascii minus = lit< tt

ascii_numoffset : {x : List ℕ} {o : Offset} → Numoffset x o → ascii x ≡ true
ascii_numoffset (extended (time_numoffset b h m p q r)) =
    ascii_cons b _ (sign_ascii p) (ascii_append h _ (ascii_figures q) (ascii_cons 0x3A m (lit< tt) (ascii_figures r)))
ascii_numoffset (basic b h m p q r) = ascii_cons b _ (sign_ascii p) (ascii_append h m (ascii_figures q) (ascii_figures r))
ascii_numoffset (hours b h p q) = ascii_cons b h (sign_ascii p) (ascii_figures q)

blanks_utf8 : {w x : List ℕ} → Blanks w → Utf8 x → Utf8 (w ++ x)
blanks_utf8 no_blank u = u
blanks_utf8 {x = x} (blank {w} {t} W B) u = subst Utf8 (sym (append_assoc w t x)) (white_utf8 W (blanks_utf8 B u))

numeric_utf8 : {t : List ℕ} {o : Offset} → Numeric t o → Utf8 t
numeric_utf8 (numeric w x B p) = blanks_utf8 B ((utf.agrees x).1 (ascii_utf8 x (ascii_numoffset p)))

-- ---- what ends a stamp

pub ending_utf8 : {t : List ℕ} {o : Offset} → Ending t o → Utf8 t
ending_utf8 none_given = nothing
ending_utf8 capital_z = ascii_then (lit< tt) nothing
ending_utf8 small_z = ascii_then (lit< tt) nothing
ending_utf8 (in_figures n) = numeric_utf8 n
