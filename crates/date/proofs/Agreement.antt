-- The grammar of dates and the computation agree: a text names a day exactly where the computation accepts it with that day; it has at
-- most one reading. Assumes nothing.
use mathlib.Core.Path.{◌≡◌, refl, sym, ap, ◌∙◌, subst}
use mathlib.Core.Bool.{Bool, true, false, cond, not, ◌&&◌, false≢true}
use mathlib.Core.Logic.{inl, ⊎_elim, ◌↔◌}
use mathlib.Core.List.{List, [], ◌∷◌, ◌++◌}
use Rattle.std.specs.Prelude.{Option, None, Some}
use Prim.Native.Nat.{ℕ, zero, suc, ◌+◌, ◌-◌, ◌≤◌, ◌<◌}
use native.Mathlib.Omega.{arith}
use native.Mathlib.Numerals.{add-one}
use lib.Dec.{eqb, leb, ltb, lit<}
use lib.ListN.{length, get_or, take, drop, length-append, drop_of_length-le}
use lib.Seq.{length-take-le, take_at, drop_at, drop-drop, get_or-drop}
use lib.IntN.{ℤ, pos, negsuc}
use borrow.Author.Tests.{eqb-true, le-leb, leb-true, lt-leb, leb-false, lt-ltb, ltb-true, not-true}
use Rattle.calendar.specs.Calendar.{civil}
use Rattle.number.specs.Widths.{in_signed, in_unsigned, in_type, keep}
use Rattle.number.specs.Decimal.{one_or_more, Numeral, plain, plus, minus, numeral, integer}
use Rattle.number.proofs.Agreement as Numerals
use Rattle.refusal.specs.Outcome.{Outcome, accepted, refused, and_then}
use Rattle.text.specs.Digits.{is_digit, worth, digits, value, two_digits, two_at}
use Rattle.utf8.specs.Utf8.{utf8, ascii}
use Rattle.utf8.proofs.Ascii.{ascii_nil, ascii_cons, ascii_append, ascii_digits, ascii_utf8}
use Rattle.text.proofs.Bools.{and_left, and_right, and_false, or_cases, by_test}
use Rattle.clock.specs.Grammar.{Figures, no_digits}
use Rattle.refusal.proofs.Outcomes.{clash}
use Rattle.text.proofs.DigitLists.{one_value, two_value, four_value}
use Rattle.text.proofs.Logic.{none_some, both}
use Rattle.text.proofs.Places.{not_sign, sign_inside, seven, eight}
use Rattle.clock.proofs.Figures.{by_one, by_two, by_four, one_figure, two_figures, four_figures, size_of, ascii_figures}
use Rattle.stamp_text.specs.Answer.{is_date, day_of, plain_moment}
use Rattle.datetime.specs.Moment.{Moment}
use Rattle.stamp_text.proofs.Agreement as Stamps
use Rattle.date.specs.Grammar.{OneOrTwo, one, two, Sign, DateText, compact, hyphens, signed, NamesDay, of_date, of_stamp, Reads, reads}
use Rattle.date.specs.Grammar as Grammar
use Rattle.date.specs.Answer.{is_sign, day_with, signed_day, on_day, plain_day, day_named, in_days, date_days}
use Rattle.ymd.specs.Forms.{to_hyphen, numbers, month_day, extended_ymd, four_digits, four_at, compact_day, last_day, hyphen_day, short_day}

-- ---- the signed form is read

to_hyphen_lem : (y r : List ℕ) → digits y ≡ true → to_hyphen (y ++ (0x2D ∷ r)) ≡ length y
unfolding to_hyphen digits
to_hyphen_lem [] r e = refl
to_hyphen_lem (b ∷ y) r e =
    rw (not_sign b 0x2D (and_left (is_digit b) (digits y) e) (inl (omega arith))) (ap suc (to_hyphen_lem y r (and_right (is_digit b) (digits y) e)))

number_hyphen : {m : List ℕ} {z : ℤ} → Numeral false m z → (r : List ℕ) → to_hyphen (m ++ (0x2D ∷ r)) ≡ length m
unfolding to_hyphen
number_hyphen {m} (plain d) r = to_hyphen_lem m r (Numerals.all_digits d)
number_hyphen (plus {t} d) r = ap suc (to_hyphen_lem t r (Numerals.all_digits d))
number_hyphen (minus e d) r = absurd (false≢true e)

integer_of : (sign : Bool) (bits : ℕ) {t : List ℕ} {z : ℤ} → Numeral sign t z → in_type sign bits z ≡ true → integer sign bits t ≡ Some z
integer_of sign bits {t} {z} n e = rw ((Numerals.agrees sign t z).0 n, e)

-- what stands behind a hyphen
behind : (a r : List ℕ) (k : ℕ) → k ≡ length a + 1 → drop k (a ++ (0x2D ∷ r)) ≡ r
behind a r k e = ap (λ (i : ℕ). drop i (a ++ (0x2D ∷ r))) e ∙ sym (drop-drop 1 (length a) (a ++ (0x2D ∷ r))) ∙ ap (drop 1) (drop_at a (0x2D ∷ r) (length a) refl)

month_day_read : (y : ℤ) (m d : List ℕ) (n k : ℕ) → Numeral false m (pos n) → in_unsigned 32 (pos n) ≡ true → Numeral false d (pos k) → in_unsigned 32 (pos k) ≡ true → month_day (Some y) (to_hyphen (m ++ (0x2D ∷ d))) (m ++ (0x2D ∷ d)) ≡ Some (record { year = y; month = n; day = k })
month_day_read y m d n k p q r s =
    rw (
      number_hyphen p d,
      lt-ltb (length m) (length (m ++ (0x2D ∷ d))) (omega (arith, length-append m (0x2D ∷ d))),
      take_at m (0x2D ∷ d) (length m) refl,
      behind m d (length m + 1) refl,
      integer_of false 32 p q,
      integer_of false 32 r s,
    )

signed_read : (s : ℕ) (y m d : List ℕ) (z : ℤ) (n k : ℕ) → 4 ≤ length y → digits y ≡ true → Numeral true (s ∷ y) z → in_signed 31 z ≡ true → Numeral false m (pos n) → in_unsigned 32 (pos n) ≡ true → Numeral false d (pos k) → in_unsigned 32 (pos k) ≡ true → signed_day (s ∷ (y ++ (0x2D ∷ (m ++ (0x2D ∷ d))))) ≡ civil z n k
unfolding extended_ymd
signed_read s y m d z n k h e p q r u v w =
    let r' : List ℕ = m ++ (0x2D ∷ d) in
    rw (
      to_hyphen_lem y r' e,
      le-leb 4 (length y) h,
      lt-ltb (length y + 1) (length (s ∷ (y ++ (0x2D ∷ r')))) (omega (arith, length-append y (0x2D ∷ r'))),
      take_at (s ∷ y) (0x2D ∷ r') (length y + 1) (omega arith),
      behind (s ∷ y) r' (length y + 2) (omega arith),
      integer_of true 32 p q,
      month_day_read z m d n k r u v w,
    )

-- ---- the unsigned forms are read

no_digit_at : (i : List ℕ) (k : ℕ) → no_digits i ≡ true → is_digit (get_or i k 0) ≡ false
unfolding no_digits
no_digit_at [] k e = refl
no_digit_at (b ∷ i) zero e = not-true (is_digit b) (and_left (not (is_digit b)) (no_digits i) e)
no_digit_at (b ∷ i) (suc k) e = no_digit_at i k (and_right (not (is_digit b)) (no_digits i) e)

last_read : (y : ℤ) (m : ℕ) (d i : List ℕ) → OneOrTwo d → no_digits i ≡ true → last_day y m (d ++ i) ≡ civil y m (value 0 d)
last_read y m d i (one p) e =
    by_one (λ d. last_day y m (d ++ i) ≡ civil y m (value 0 d)) (λ a fa. rw (one_value a, no_digit_at i 0 e, and_false (is_digit a), fa, e)) d p
last_read y m d i (two p) e =
    by_two (λ d. last_day y m (d ++ i) ≡ civil y m (value 0 d)) (λ a b fa fb. rw (two_value a b, fa, fb, e)) d p

-- the month, behind the year a b c d and its hyphen
month_read : (a b c d : ℕ) (m r : List ℕ) → is_digit a ≡ true → is_digit b ≡ true → is_digit c ≡ true → is_digit d ≡ true → OneOrTwo m → hyphen_day (a ∷ b ∷ c ∷ d ∷ 0x2D ∷ (m ++ (0x2D ∷ r))) ≡ last_day (pos (value 0 (a ∷ b ∷ c ∷ d ∷ []))) (value 0 m) r
month_read a b c d m r fa fb fc fd (one p) =
    by_one (λ m. hyphen_day (a ∷ b ∷ c ∷ d ∷ 0x2D ∷ (m ++ (0x2D ∷ r))) ≡ last_day (pos (value 0 (a ∷ b ∷ c ∷ d ∷ []))) (value 0 m) r)
    (λ g fg. rw (four_value a b c d, one_value g, fa, fb, fc, fd, fg)) m p
month_read a b c d m r fa fb fc fd (two p) =
    by_two (λ m. hyphen_day (a ∷ b ∷ c ∷ d ∷ 0x2D ∷ (m ++ (0x2D ∷ r))) ≡ last_day (pos (value 0 (a ∷ b ∷ c ∷ d ∷ []))) (value 0 m) r)
    (λ g h fg fh. rw (four_value a b c d, two_value g h, fa, fb, fc, fd, fg, fh)) m p

hyphens_read : (y m d i : List ℕ) → Figures 4 y → OneOrTwo m → OneOrTwo d → no_digits i ≡ true → short_day (y ++ (0x2D ∷ (m ++ (0x2D ∷ (d ++ i))))) ≡ civil (pos (value 0 y)) (value 0 m) (value 0 d)
unfolding short_day
hyphens_read y m d i p q r e =
    by_four (λ y. short_day (y ++ (0x2D ∷ (m ++ (0x2D ∷ (d ++ i))))) ≡ civil (pos (value 0 y)) (value 0 m) (value 0 d))
    (λ a b c g fa fb fc fg. month_read a b c g m (d ++ i) fa fb fc fg q ∙ last_read (pos (value 0 (a ∷ b ∷ c ∷ g ∷ []))) (value 0 m) d i r e) y p

compact_read : (y m d : List ℕ) → Figures 4 y → Figures 2 m → Figures 2 d → short_day (y ++ (m ++ d)) ≡ civil (pos (value 0 y)) (value 0 m) (value 0 d)
unfolding short_day
compact_read y m d p q r =
    by_four (λ y. short_day (y ++ (m ++ d)) ≡ civil (pos (value 0 y)) (value 0 m) (value 0 d))
    (λ a b c e fa fb fc fe.
    by_two (λ m. short_day (a ∷ b ∷ c ∷ e ∷ (m ++ d)) ≡ civil (pos (value 0 (a ∷ b ∷ c ∷ e ∷ []))) (value 0 m) (value 0 d))
    (λ g h fg fh.
    by_two (λ d. short_day (a ∷ b ∷ c ∷ e ∷ g ∷ h ∷ d) ≡ civil (pos (value 0 (a ∷ b ∷ c ∷ e ∷ []))) (value 0 (g ∷ h ∷ [])) (value 0 d))
    (λ i j fi fj. rw (four_value a b c e, two_value g h, two_value i j, not_sign g 0x2D fg (inl (omega arith)), fa, fb, fc, fe, fg, fh, fi, fj)) d r) m q) y p

-- ---- a date of the grammar is accepted

pub first_digit : (b : ℕ) → is_digit b ≡ true → is_sign b ≡ false
first_digit b e = rw (not_sign b 0x2B e (inl (omega arith)), not_sign b 0x2D e (inl (omega arith)))

four_first : {y : List ℕ} → Figures 4 y → (r : List ℕ) → is_sign (get_or (y ++ r) 0 0) ≡ false
four_first {y} p r = by_four (λ y. is_sign (get_or (y ++ r) 0 0) ≡ false) (λ a b c d fa fb fc fd. first_digit a fa) y p

pub is_sign_lem : {s : ℕ} → Sign s → is_sign s ≡ true
is_sign_lem Grammar.plus = refl
is_sign_lem Grammar.minus = refl

-- a stamp begins with a digit
stamp_first : (t : List ℕ) (x : Moment) → plain_moment t ≡ accepted x → is_sign (get_or t 0 0) ≡ false
unfolding plain_moment day_of
stamp_first t x e =
    by_test (is_date t)
    (λ p. first_digit (get_or t 0 0) (and_left (is_digit (get_or t 0 0)) (is_digit (get_or t 1 0)) (and_left (two_digits t 0) _ p)))
    (λ p. clash (rw p at e))

date_read : {t : List ℕ} {y : ℤ} {m d : ℕ} {z : ℤ} → DateText t y m d → civil y m d ≡ Some z → plain_day t ≡ accepted z
unfolding plain_day
date_read (compact y m d p q r) c =
    rw (
      four_first p (m ++ d),
      le-leb (length (y ++ (m ++ d))) 10 (omega (arith, length-append y (m ++ d), length-append m d, size_of p, size_of q, size_of r)),
      compact_read y m d p q r,
      c,
    )
date_read (hyphens y m d i p q r e l) c =
    rw (four_first p (0x2D ∷ (m ++ (0x2D ∷ (d ++ i)))), le-leb (length (y ++ (0x2D ∷ (m ++ (0x2D ∷ (d ++ i)))))) 10 l, hyphens_read y m d i p q r e, c)
date_read (signed s y m d {z} {n} {k} g h e p q r u v w) c = rw (is_sign_lem g, signed_read s y m d z n k h e p q r u v w, c)

pub complete : {t : List ℕ} {z : ℤ} → NamesDay t z → day_named t ≡ accepted z
unfolding plain_day
complete (of_date z d u c) = rw u (date_read d c)
complete (of_stamp {t} x n h) =
    let e = Stamps.complete n in
    rw (Stamps.read_utf8 t x e, stamp_first t x e, lt-leb (length t) 10 h, e)

-- ---- an accepted text is a date of the grammar

integer_is : (sign : Bool) (bits : ℕ) (t : List ℕ) (z : ℤ) → integer sign bits t ≡ Some z → Numeral sign t z × (in_type sign bits z ≡ true)
integer_is sign bits t z e = by (numeral sign t) refl e
  where
    by : (o : Option ℤ) → numeral sign t ≡ o → keep (in_type sign bits) o ≡ Some z → Numeral sign t z × (in_type sign bits z ≡ true)
    by None p q = none_some q
    by (Some y) p q =
        by_test (in_type sign bits y)
        (λ r. let v : Some y ≡ Some z = rw r at q in let w : y ≡ z = cc in ((Numerals.agrees sign t z).1 (p ∙ ap Some w), rw w at r))
        (λ r. none_some (rw r at q))

record Three (o p q : Option ℤ) (z : ℤ) : Type 0 where
  year : ℤ
  month : ℕ
  day : ℕ
  year_is : o ≡ Some year
  month_is : p ≡ Some (pos month)
  day_is : q ≡ Some (pos day)
  named : civil year month day ≡ Some z

three_of : (o p q : Option ℤ) (z : ℤ) → day_with (numbers o p q) ≡ Some z → Three o p q z
three_of None p q z e = none_some e
three_of (Some y) None q z e = none_some e
three_of (Some y) (Some m) None z e = none_some e
three_of (Some y) (Some (negsuc m)) (Some d) z e = none_some e
three_of (Some y) (Some (pos m)) (Some (negsuc d)) z e = none_some e
three_of (Some y) (Some (pos m)) (Some (pos d)) z e = record { year = y; month = m; day = d; year_is = refl; month_is = refl; day_is = refl; named = e }

-- a text up to its first hyphen, the hyphen, and the rest
at_hyphen : (t : List ℕ) → to_hyphen t < length t → t ≡ take (to_hyphen t) t ++ (0x2D ∷ drop (to_hyphen t + 1) t)
unfolding to_hyphen
at_hyphen [] h = absurd (omega arith)
at_hyphen (b ∷ t) h =
    by_test (eqb b 0x2D)
    (λ e. rw e (ap (λ (x : ℕ). x ∷ t) (eqb-true b 0x2D e)))
    (λ e. rw (e, add-one) (rw add-one at (ap (λ (r : List ℕ). b ∷ r) (at_hyphen t (less e h)))))
  where
    less : eqb b 0x2D ≡ false → cond (eqb b 0x2D) 0 (suc (to_hyphen t)) < length (b ∷ t) → to_hyphen t < length t
    less e h = let g : suc (to_hyphen t) < length (b ∷ t) = rw e at h in omega arith

sign_of : (b : ℕ) → is_sign b ≡ true → Sign b
sign_of b e = ⊎_elim (λ p. rw (eqb-true b 0x2B p) Grammar.plus) (λ p. rw (eqb-true b 0x2D p) Grammar.minus) (or_cases (eqb b 0x2B) (eqb b 0x2D) e)

-- the digits behind a sign
year_digits : {t : List ℕ} {z : ℤ} → Numeral true t z → (s : ℕ) (y : List ℕ) → t ≡ s ∷ y → is_sign s ≡ true → digits y ≡ true
year_digits (plain (one_or_more {b} {t} p q)) s y e g =
    let w : b ≡ s = cc in absurd (false≢true (sym (first_digit b p) ∙ ap is_sign w ∙ g))
year_digits (plus d) s y e g = let w = Numerals.all_digits d in cc
year_digits (minus r d) s y e g = let w = Numerals.all_digits d in cc

record DateIs (t : List ℕ) (z : ℤ) : Type 0 where
  year : ℤ
  month : ℕ
  day : ℕ
  text : DateText t year month day
  named : civil year month day ≡ Some z

-- the sign s, the year in the n bytes before the first hyphen of r, the month in the k before the first of q, and the day behind it
signed_parts : (s : ℕ) (r : List ℕ) (n : ℕ) (q : List ℕ) (k : ℕ) (z : ℤ) → is_sign s ≡ true → n ≡ to_hyphen r → q ≡ drop (n + 1) r → k ≡ to_hyphen q → 4 ≤ n → n < length r → k < length q → Three (integer true 32 (take (n + 1) (s ∷ r))) (integer false 32 (take k q)) (integer false 32 (drop (k + 1) q)) z → DateIs (s ∷ r) z
signed_parts s r n q k z g en eq ek four l u x =
    let take_more : take (n + 1) (s ∷ r) ≡ s ∷ take n r = ap (λ (i : ℕ). take i (s ∷ r)) (add-one n) in
    let y = integer_is true 32 (s ∷ take n r) x.year (ap (integer true 32) (sym take_more) ∙ x.year_is) in
    let m = integer_is false 32 (take k q) (pos x.month) x.month_is in
    let d = integer_is false 32 (drop (k + 1) q) (pos x.day) x.day_is in
    let w : s ∷ r ≡ s ∷ (take n r ++ (0x2D ∷ (take k q ++ (0x2D ∷ drop (k + 1) q)))) =
    ap (λ (v : List ℕ). s ∷ v) (first ∙ ap (λ (v : List ℕ). take n r ++ (0x2D ∷ v)) second) in
    subst (λ (v : List ℕ). DateIs v z) (sym w)
    (record {
      year = x.year;
      month = x.month;
      day = x.day;
      text = signed s (take n r) (take k q) (drop (k + 1) q) (sign_of s g) (omega (arith, length-take-le n r (omega arith))) (year_digits y.0 s (take n r) refl g) y.0 y.1 m.0 m.1 d.0 d.1;
      named = x.named;
    })
  where
    first : r ≡ take n r ++ (0x2D ∷ q)
    first = rw (eq, en) (at_hyphen r (rw en at l))

    second : q ≡ take k q ++ (0x2D ∷ drop (k + 1) q)
    second = rw ek (at_hyphen q (rw ek at u))

signed_sound : (s : ℕ) (r : List ℕ) (z : ℤ) → is_sign s ≡ true → signed_day (s ∷ r) ≡ Some z → DateIs (s ∷ r) z
unfolding extended_ymd
signed_sound s r z g e =
    by_test (leb 4 (to_hyphen r) && ltb (to_hyphen r + 1) (length (s ∷ r)))
    (λ p.
    let a = both (leb 4 (to_hyphen r)) (ltb (to_hyphen r + 1) (length (s ∷ r))) p in
    let l = ltb-true (to_hyphen r + 1) (length (s ∷ r)) a.1 in
    month_sound (drop (to_hyphen r + 1) r) refl (leb-true 4 (to_hyphen r) a.0) (omega arith) (rw (p, more) at e))
    (λ p. none_some (rw p at e))
  where
    more : drop (to_hyphen r + 2) (s ∷ r) ≡ drop (to_hyphen r + 1) r
    more = let same : to_hyphen r + 2 ≡ suc (to_hyphen r + 1) = omega arith in ap (λ (i : ℕ). drop i (s ∷ r)) same

    month_sound : (q : List ℕ) → q ≡ drop (to_hyphen r + 1) r → 4 ≤ to_hyphen r → to_hyphen r < length r → day_with (month_day (integer true 32 (take (to_hyphen r + 1) (s ∷ r))) (to_hyphen q) q) ≡ Some z → DateIs (s ∷ r) z
    month_sound q eq four l e =
        by_test (ltb (to_hyphen q) (length q))
        (λ u. signed_parts s r (to_hyphen r) q (to_hyphen q) z g refl eq refl four l (ltb-true (to_hyphen q) (length q) u) (three_of (integer true 32 (take (to_hyphen r + 1) (s ∷ r))) (integer false 32 (take (to_hyphen q) q)) (integer false 32 (drop (to_hyphen q + 1) q)) z (rw u at e)))
        (λ u. none_some (rw u at e))

-- the day, and what is ignored behind it
record LastIs (y : ℤ) (m : ℕ) (r : List ℕ) (z : ℤ) : Type 0 where
  day : List ℕ
  ignored : List ℕ
  figures : OneOrTwo day
  none_left : no_digits ignored ≡ true
  text : r ≡ day ++ ignored
  named : civil y m (value 0 day) ≡ Some z

last_sound : (y : ℤ) (m : ℕ) (r : List ℕ) (z : ℤ) → last_day y m r ≡ Some z → LastIs y m r z
unfolding no_digits
last_sound y m [] z e = none_some e
last_sound y m (a ∷ []) z e =
    by_test (is_digit a)
    (λ p. one_left a [] p refl (rw (and_false (is_digit a), p) at e))
    (λ p. none_some (rw (and_false (is_digit a), p) at e))
  where
    one_left : (a : ℕ) (i : List ℕ) → is_digit a ≡ true → no_digits i ≡ true → civil y m (worth a) ≡ Some z → LastIs y m (a ∷ i) z
    one_left a i p q e = record { day = a ∷ []; ignored = i; figures = one (one_figure a p); none_left = q; text = refl; named = rw (one_value a) e }
last_sound y m (a ∷ b ∷ r) z e =
    by_test (two_digits (a ∷ b ∷ []) 0 && no_digits r)
    (λ p.
    let q = both (two_digits (a ∷ b ∷ []) 0) (no_digits r) p in
    let d = both (is_digit a) (is_digit b) q.0 in
    record { day = a ∷ b ∷ []; ignored = r; figures = two (two_figures a b d.0 d.1); none_left = q.1; text = refl; named = rw (two_value a b) (rw p at e) })
    (λ p.
    by_test (is_digit a && no_digits (b ∷ r))
    (λ q.
    let d = both (is_digit a) (no_digits (b ∷ r)) q in
    record { day = a ∷ []; ignored = b ∷ r; figures = one (one_figure a d.0); none_left = d.1; text = refl; named = rw (one_value a) (rw (p, q) at e) })
    (λ q. none_some (rw (p, q) at e)))

-- the year in the first four bytes
year_of : (t : List ℕ) → four_digits t ≡ true → Figures 4 (get_or t 0 0 ∷ get_or t 1 0 ∷ get_or t 2 0 ∷ get_or t 3 0 ∷ [])
year_of t e =
    let p = both (two_digits t 0) (two_digits t 2) e in
    let a = both (is_digit (get_or t 0 0)) (is_digit (get_or t 1 0)) p.0 in
    let b = both (is_digit (get_or t 2 0)) (is_digit (get_or t 3 0)) p.1 in
    four_figures (get_or t 0 0) (get_or t 1 0) (get_or t 2 0) (get_or t 3 0) a.0 a.1 b.0 b.1

-- a date with hyphens, whose month is m and whose day begins r
from_month : (t : List ℕ) (m r : List ℕ) (z : ℤ) → length t ≤ 10 → four_digits t ≡ true → OneOrTwo m → t ≡ get_or t 0 0 ∷ get_or t 1 0 ∷ get_or t 2 0 ∷ get_or t 3 0 ∷ 0x2D ∷ (m ++ (0x2D ∷ r)) → LastIs (pos (four_at t)) (value 0 m) r z → DateIs t z
from_month t m r z l f q w x =
    subst (λ (v : List ℕ). DateIs v z) (sym v)
    (record {
      year = pos (value 0 y);
      month = value 0 m;
      day = value 0 x.day;
      text = hyphens y m x.day x.ignored (year_of t f) q x.figures x.none_left (omega (arith, ap length v));
      named = rw (four_value (get_or t 0 0) (get_or t 1 0) (get_or t 2 0) (get_or t 3 0)) x.named;
    })
  where
    y : List ℕ
    y = get_or t 0 0 ∷ get_or t 1 0 ∷ get_or t 2 0 ∷ get_or t 3 0 ∷ []

    v : t ≡ y ++ (0x2D ∷ (m ++ (0x2D ∷ (x.day ++ x.ignored))))
    v = w ∙ ap (λ (u : List ℕ). get_or t 0 0 ∷ get_or t 1 0 ∷ get_or t 2 0 ∷ get_or t 3 0 ∷ 0x2D ∷ (m ++ (0x2D ∷ u))) x.text

hyphen_sound : (t : List ℕ) (z : ℤ) → length t ≤ 10 → eqb (get_or t 4 0) 0x2D ≡ true → hyphen_day t ≡ Some z → DateIs t z
hyphen_sound t z l h e =
    by_test (four_digits t && (two_digits t 5 && eqb (get_or t 7 0) 0x2D))
    (λ p.
    let a = both (four_digits t) (two_digits t 5 && eqb (get_or t 7 0) 0x2D) p in
    let b = both (two_digits t 5) (eqb (get_or t 7 0) 0x2D) a.1 in
    let m = both (is_digit (get_or t 5 0)) (is_digit (get_or t 6 0)) b.0 in
    from_month t (get_or t 5 0 ∷ get_or t 6 0 ∷ []) (drop 8 t) z l a.0 (two (two_figures (get_or t 5 0) (get_or t 6 0) m.0 m.1))
    (rw (eqb-true (get_or t 4 0) 0x2D h, eqb-true (get_or t 7 0) 0x2D b.1) at (eight t (sign_inside t 7 0x2C b.1)))
    (rw (two_value (get_or t 5 0) (get_or t 6 0)) (last_sound (pos (four_at t)) (two_at t 5) (drop 8 t) z (rw p at e))))
    (λ p.
    by_test (four_digits t && (is_digit (get_or t 5 0) && eqb (get_or t 6 0) 0x2D))
    (λ q.
    let a = both (four_digits t) (is_digit (get_or t 5 0) && eqb (get_or t 6 0) 0x2D) q in
    let b = both (is_digit (get_or t 5 0)) (eqb (get_or t 6 0) 0x2D) a.1 in
    from_month t (get_or t 5 0 ∷ []) (drop 7 t) z l a.0 (one (one_figure (get_or t 5 0) b.0))
    (rw (eqb-true (get_or t 4 0) 0x2D h, eqb-true (get_or t 6 0) 0x2D b.1) at (seven t (sign_inside t 6 0x2C b.1)))
    (rw (one_value (get_or t 5 0)) (last_sound (pos (four_at t)) (worth (get_or t 5 0)) (drop 7 t) z (rw (p, q) at e))))
    (λ q. none_some (rw (p, q) at e)))

compact_sound : (t : List ℕ) (z : ℤ) → compact_day t ≡ Some z → DateIs t z
compact_sound t z e =
    by_test (eqb (length t) 8 && (four_digits t && (two_digits t 4 && two_digits t 6)))
    (λ p.
    let a = both (eqb (length t) 8) (four_digits t && (two_digits t 4 && two_digits t 6)) p in
    let b = both (four_digits t) (two_digits t 4 && two_digits t 6) a.1 in
    let c = both (two_digits t 4) (two_digits t 6) b.1 in
    let m = both (is_digit (get_or t 4 0)) (is_digit (get_or t 5 0)) c.0 in
    let d = both (is_digit (get_or t 6 0)) (is_digit (get_or t 7 0)) c.1 in
    let n = eqb-true (length t) 8 a.0 in
    let w : t ≡ get_or t 0 0 ∷ get_or t 1 0 ∷ get_or t 2 0 ∷ get_or t 3 0 ∷ get_or t 4 0 ∷ get_or t 5 0 ∷ get_or t 6 0 ∷ get_or t 7 0 ∷ [] = rw (drop_of_length-le t {i = 8} (omega arith)) at (eight t (omega arith)) in
    subst (λ (v : List ℕ). DateIs v z) (sym w)
    (record {
      year = pos (value 0 (get_or t 0 0 ∷ get_or t 1 0 ∷ get_or t 2 0 ∷ get_or t 3 0 ∷ []));
      month = value 0 (get_or t 4 0 ∷ get_or t 5 0 ∷ []);
      day = value 0 (get_or t 6 0 ∷ get_or t 7 0 ∷ []);
      text = compact (get_or t 0 0 ∷ get_or t 1 0 ∷ get_or t 2 0 ∷ get_or t 3 0 ∷ []) (get_or t 4 0 ∷ get_or t 5 0 ∷ []) (get_or t 6 0 ∷ get_or t 7 0 ∷ []) (year_of t b.0) (two_figures (get_or t 4 0) (get_or t 5 0) m.0 m.1) (two_figures (get_or t 6 0) (get_or t 7 0) d.0 d.1);
      named = rw (four_value (get_or t 0 0) (get_or t 1 0) (get_or t 2 0) (get_or t 3 0), two_value (get_or t 4 0) (get_or t 5 0), two_value (get_or t 6 0) (get_or t 7 0)) (rw p at e);
    }))
    (λ p. none_some (rw p at e))

short_sound : (t : List ℕ) (z : ℤ) → length t ≤ 10 → short_day t ≡ Some z → DateIs t z
unfolding short_day
short_sound t z l e =
    by_test (eqb (get_or t 4 0) 0x2D) (λ h. hyphen_sound t z l h (rw h at e)) (λ h. compact_sound t z (rw h at e))

pub sound : (t : List ℕ) (z : ℤ) → utf8 t ≡ true → plain_day t ≡ accepted z → NamesDay t z
unfolding plain_day
sound t z u e =
    by_test (is_sign (get_or t 0 0))
    (λ g. by_sign t u g (rw g at e))
    (λ g.
    by_test (leb (length t) 10)
    (λ l. on_day_lem (short_day t) refl (leb-true (length t) 10 l) (rw (g, l) at e))
    (λ l. on_stamp (plain_moment t) refl (leb-false (length t) 10 l) (rw (g, l) at e)))
  where
    dated : {t : List ℕ} → utf8 t ≡ true → DateIs t z → NamesDay t z
    dated u x = of_date z x.text u x.named

    signed_day_lem : (s : ℕ) (r : List ℕ) → utf8 (s ∷ r) ≡ true → is_sign s ≡ true → (o : Option ℤ) → signed_day (s ∷ r) ≡ o → on_day o ≡ accepted z → NamesDay (s ∷ r) z
    signed_day_lem s r u g None p e = clash e
    signed_day_lem s r u g (Some y) p e = let v : y ≡ z = cc in dated u (signed_sound s r z g (p ∙ ap Some v))

    by_sign : (t : List ℕ) → utf8 t ≡ true → is_sign (get_or t 0 0) ≡ true → on_day (signed_day t) ≡ accepted z → NamesDay t z
    by_sign [] u g e = absurd (false≢true g)
    by_sign (s ∷ r) u g e = signed_day_lem s r u g (signed_day (s ∷ r)) refl e

    on_day_lem : (o : Option ℤ) → short_day t ≡ o → length t ≤ 10 → on_day o ≡ accepted z → NamesDay t z
    on_day_lem None p l e = clash e
    on_day_lem (Some y) p l e = let v : y ≡ z = cc in dated u (short_sound t z l (p ∙ ap Some v))

    on_stamp : (o : Outcome Moment) → plain_moment t ≡ o → 10 < length t → and_then o (λ x. accepted x.day) ≡ accepted z → NamesDay t z
    on_stamp (accepted x) p l e = let v : x.day ≡ z = cc in rw (← v) (of_stamp x (Stamps.sound t x p) l)
    on_stamp (refused n) p l e = clash e

-- ---- an accepted text that ends in a digit is UTF-8, so that it need not be looked at

-- the last byte of a text is that of its end
last_byte : (a i : List ℕ) → 1 ≤ length i → get_or (a ++ i) (length (a ++ i) - 1) 0 ≡ get_or i (length i - 1) 0
last_byte a i h =
    let q : length (a ++ i) - 1 ≡ length a + (length i - 1) = omega (arith, length-append a i) in
    rw q
    (sym (get_or-drop (length a) (a ++ i) (length i - 1) 0) ∙ ap (λ (t : List ℕ). get_or t (length i - 1) 0) (drop_at a i (length a) refl))

behind_sign : (a : List ℕ) (b : ℕ) (i : List ℕ) → 1 ≤ length i → get_or (a ++ (b ∷ i)) (length (a ++ (b ∷ i)) - 1) 0 ≡ get_or i (length i - 1) 0
behind_sign a b i h = last_byte a (b ∷ i) (omega arith) ∙ last_byte (b ∷ []) i h

-- nothing is ignored behind a date yyyy-m-d that ends in a digit
none_ignored : (y m d i : List ℕ) → no_digits i ≡ true → is_digit (get_or (y ++ (0x2D ∷ (m ++ (0x2D ∷ (d ++ i))))) (length (y ++ (0x2D ∷ (m ++ (0x2D ∷ (d ++ i))))) - 1) 0) ≡ true → ascii i ≡ true
none_ignored y m d [] n e = ascii_nil
none_ignored y m d (b ∷ i) n e =
    let r : List ℕ = d ++ (b ∷ i) in
    let h : 1 ≤ length r = omega (arith, length-append d (b ∷ i)) in
    let q = behind_sign y 0x2D (m ++ (0x2D ∷ r)) (omega (arith, length-append m (0x2D ∷ r))) ∙ behind_sign m 0x2D r h ∙ last_byte d (b ∷ i) (omega arith) in
    absurd (false≢true (sym (no_digit_at (b ∷ i) (length (b ∷ i) - 1) n) ∙ sym (ap is_digit q) ∙ e))

ascii_number : {m : List ℕ} {z : ℤ} → Numeral false m z → ascii m ≡ true
ascii_number {m} (plain d) = ascii_digits m (Numerals.all_digits d)
ascii_number (plus {t} d) = ascii_cons 0x2B t (lit< tt) (ascii_digits t (Numerals.all_digits d))
ascii_number (minus e d) = absurd (false≢true e)

ascii_sign : {s : ℕ} → Sign s → s < 0x80
ascii_sign Grammar.plus = lit< tt
ascii_sign Grammar.minus = lit< tt

ascii_one_or_two : {t : List ℕ} → OneOrTwo t → ascii t ≡ true
ascii_one_or_two (one p) = ascii_figures p
ascii_one_or_two (two p) = ascii_figures p

ascii_date : {t : List ℕ} {y : ℤ} {m d : ℕ} → DateText t y m d → is_digit (get_or t (length t - 1) 0) ≡ true → ascii t ≡ true
ascii_date (compact y m d p q r) e = ascii_append y _ (ascii_figures p) (ascii_append m d (ascii_figures q) (ascii_figures r))
ascii_date (hyphens y m d i p q r n l) e =
    ascii_append y _ (ascii_figures p)
    (ascii_cons 0x2D _ (lit< tt)
    (ascii_append m _ (ascii_one_or_two q) (ascii_cons 0x2D _ (lit< tt) (ascii_append d i (ascii_one_or_two r) (none_ignored y m d i n e)))))
ascii_date (signed s y m d g h f n i p j q k) e =
    ascii_cons s _ (ascii_sign g)
    (ascii_append y _ (ascii_digits y f) (ascii_cons 0x2D _ (lit< tt) (ascii_append m _ (ascii_number p) (ascii_cons 0x2D d (lit< tt) (ascii_number q)))))

pub read_utf8 : (t : List ℕ) (z : ℤ) → plain_day t ≡ accepted z → is_digit (get_or t (length t - 1) 0) ≡ true → utf8 t ≡ true
unfolding plain_day
read_utf8 t z e d =
    by_test (is_sign (get_or t 0 0))
    (λ g. by_sign t g (rw g at e) d)
    (λ g.
    by_test (leb (length t) 10)
    (λ l. on_day_lem (short_day t) refl (leb-true (length t) 10 l) (rw (g, l) at e))
    (λ l. on_stamp (plain_moment t) refl (rw (g, l) at e)))
  where
    dated : {t : List ℕ} {z : ℤ} → DateIs t z → is_digit (get_or t (length t - 1) 0) ≡ true → utf8 t ≡ true
    dated {t} x d = ascii_utf8 t (ascii_date x.text d)

    signed_day_lem : (s : ℕ) (r : List ℕ) → is_sign s ≡ true → (o : Option ℤ) → signed_day (s ∷ r) ≡ o → on_day o ≡ accepted z → is_digit (get_or (s ∷ r) (length (s ∷ r) - 1) 0) ≡ true → utf8 (s ∷ r) ≡ true
    signed_day_lem s r g None p e d = clash e
    signed_day_lem s r g (Some y) p e d = dated (signed_sound s r y g p) d

    by_sign : (t : List ℕ) → is_sign (get_or t 0 0) ≡ true → on_day (signed_day t) ≡ accepted z → is_digit (get_or t (length t - 1) 0) ≡ true → utf8 t ≡ true
    by_sign [] g e d = absurd (false≢true g)
    by_sign (s ∷ r) g e d = signed_day_lem s r g (signed_day (s ∷ r)) refl e d

    on_day_lem : (o : Option ℤ) → short_day t ≡ o → length t ≤ 10 → on_day o ≡ accepted z → utf8 t ≡ true
    on_day_lem None p l e = clash e
    on_day_lem (Some y) p l e = dated (short_sound t y l p) d

    on_stamp : (o : Outcome Moment) → plain_moment t ≡ o → and_then o (λ x. accepted x.day) ≡ accepted z → utf8 t ≡ true
    on_stamp (accepted x) p e = Stamps.read_utf8 t x p
    on_stamp (refused n) p e = clash e

-- ---- the theorems

-- a text names a day exactly where it is accepted with that day
pub agrees : (t : List ℕ) (z : ℤ) → NamesDay t z ↔ (day_named t ≡ accepted z)
agrees t z = (complete, λ e. by_test (utf8 t) (λ u. sound t z u (rw u at e)) (λ u. clash (rw u at e)))

-- at most one
pub one_day : {t : List ℕ} {y z : ℤ} → NamesDay t y → NamesDay t z → y ≡ z
one_day p q = let a = complete p in let b = complete q in cc

-- a text is read as a day of 32 bits exactly where it is accepted with that day
pub read_as : (t : List ℕ) (z : ℤ) → Reads t z ↔ (date_days t ≡ accepted z)
read_as t z = (into, back (day_named t) refl)
  where
    into : {z : ℤ} → Reads t z → date_days t ≡ accepted z
    into (reads n f) = rw (complete n, f)

    back : (o : Outcome ℤ) → day_named t ≡ o → and_then o in_days ≡ accepted z → Reads t z
    back (accepted y) p e =
        by_test (in_signed 31 y)
        (λ f. let q : accepted y ≡ accepted z = rw f at e in let v : y ≡ z = cc in reads ((agrees t z).1 (p ∙ ap accepted v)) (rw v at f))
        (λ f. clash (rw f at e))
    back (refused n) p e = clash e
