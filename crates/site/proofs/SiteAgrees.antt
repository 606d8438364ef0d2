-- The site stamps of the relation are those that the computation accepts, with the same value, which is the plain reader's.
-- Assumes nothing.
use mathlib.Core.Path.{◌≡◌, refl, sym, ap, ◌∙◌, subst}
use mathlib.Core.Bool.{Bool, true, false, ◌&&◌, ◌||◌, false≢true}
use mathlib.Core.Logic.{inr, ⊎_elim, ◌↔◌}
use mathlib.Core.List.{List, [], ◌∷◌, ◌++◌, append_assoc, append-nil}
use Prim.Native.Nat.{ℕ, ◌+◌, ◌-◌, ◌≤◌, ◌<◌}
use native.Mathlib.Omega.{arith}
use lib.Dec.{eqb, leb}
use lib.ListN.{length, get_or, drop, length-append, get_or-eq_default}
use borrow.Author.Tests.{eqb-true, eq-eqb, le-leb, leb-true}
use Rattle.refusal.specs.Outcome.{Outcome, accepted, refused, and_then}
use Rattle.text.specs.Digits.{is_digit, value, two_digits, two_at}
use Rattle.text.proofs.Bools.{and_left, and_right, by_test, both_ways, or_cases}
use Rattle.text.proofs.Logic.{both}
use Rattle.clock.specs.Clock.{Clock, held_clock}
use Rattle.clock.proofs.Held.{held_nanos}
use Rattle.clock.specs.Grammar.{Figures, Secfrac, no_fraction, fraction}
use Rattle.refusal.proofs.Outcomes.{clash}
use Rattle.text.proofs.DigitLists.{two_value}
use Rattle.text.proofs.Places.{not_sign, last_of}
use Rattle.clock.proofs.Figures.{by_two, by_four, by_fields, two_figures, size_of, seconds_end}
use Rattle.offset.specs.declared.Offset.{Offset}
use Rattle.offset.specs.Grammar.{utc, Numeric, Ending, none_given, capital_z, small_z, in_figures}
use Rattle.offset.specs.Utc.{InUtc}
use Rattle.offset.proofs.Agreement.{front, last}
use Rattle.offset.proofs.Shift.{agrees as in_utc_agrees}
use Rattle.stamp_text.specs.Grammar.{Ymd, FullDate, full_date, PartialTime, colons, basic, capital, Stamp, date_alone, date_time}
use Rattle.stamp_text.proofs.LongestTimes.{eight_bytes}
use Rattle.number.specs.Widths.{in_signed}
use Rattle.stamp_text.specs.Answer.{has_colons, datetime, stamp_nanos}
use Rattle.datetime.specs.Moment.{Moment, moment, instant}
use Rattle.stamp_text.specs.Meaning.{Names, names}
use Rattle.site.specs.Site.{LeapSecond, june, december, SiteStamp, site, SiteReads, site_reads, marked, is_leap_day, is_leap, is_site, on_moment, site_marked}
use Rattle.site.specs.declared.Marked.{Marked}
use Rattle.stamp_text.proofs.Agreement as stamps
use Rattle.stamp_text.proofs.Agreement.{seam, date_size}
use Rattle.stamp_text.proofs.Marks as marks

-- ---- a site stamp is a stamp, and passes the test

is_plain : {t : List ℕ} {d : Ymd} {c : Clock} → SiteStamp t d c → Stamp t d c utc
is_plain (site a h m s x f p q r u v n l) =
    date_time a _ (0x5A ∷ []) 0x54 p capital (colons h m s x f q r u v) capital_z (λ z. absurd (eight_bytes q r u x z))

-- three numbers of two digits with a byte c between, as a time has them, and a date behind its century
record Fields (c : ℕ) (u : List ℕ) (h m s : ℕ) : Type 0 where
  digits : (two_digits u 0 ≡ true) × ((two_digits u 3 ≡ true) × (two_digits u 6 ≡ true))
  between : (get_or u 2 0 ≡ c) × (get_or u 5 0 ≡ c)
  first : two_at u 0 ≡ h
  second : two_at u 3 ≡ m
  third : two_at u 6 ≡ s

fields : (c : ℕ) (h m s r : List ℕ) → Figures 2 h → Figures 2 m → Figures 2 s → Fields c (h ++ (c ∷ (m ++ (c ∷ (s ++ r))))) (value 0 h) (value 0 m) (value 0 s)
fields c h m s r p q u =
    by_fields (λ h m s. Fields c (h ++ (c ∷ (m ++ (c ∷ (s ++ r))))) (value 0 h) (value 0 m) (value 0 s))
    (λ a b d e g i fa fb fd fe fg fi. record {
      digits = (rw (fa, fb), (rw (fd, fe), rw (fg, fi)));
      between = (refl, refl);
      first = sym (two_value a b);
      second = sym (two_value d e);
      third = sym (two_value g i);
    })
    h m s p q u

colons_lem : {u : List ℕ} {h m s : ℕ} → Fields 0x3A u h m s → has_colons u ≡ true
colons_lem x = rw (x.digits.0, x.between.0, x.digits.1.0, x.between.1, x.digits.1.1)

secfrac_size : {x f : List ℕ} → Secfrac x f → (length x ≤ length f + 1) × (length f ≤ length x - 1)
secfrac_size no_fraction = omega arith
secfrac_size (fraction p q) = omega arith

-- ---- second 60 only as 23:59:60 on 30 June or 31 December, as a test and as a fact

leap_day_of : {a : List ℕ} {d : Ymd} → FullDate a d → (r : List ℕ) → is_leap_day (a ++ r) ≡ (eqb d.month 6 && eqb d.day 30) || (eqb d.month 12 && eqb d.day 31)
unfolding is_leap_day
leap_day_of (full_date y m d p q s) r =
    by_four (λ y. is_leap_day ((y ++ (0x2D ∷ (m ++ (0x2D ∷ d)))) ++ r) ≡ (eqb (value 0 m) 6 && eqb (value 0 d) 30) || (eqb (value 0 m) 12 && eqb (value 0 d) 31))
    (λ a b c e fa fb fc fe.
    let x = fields 0x2D (c ∷ e ∷ []) m d r (two_figures c e fc fe) q s in
    let w : (m ++ (0x2D ∷ d)) ++ r ≡ m ++ (0x2D ∷ (d ++ r)) = simp append_assoc in
    rw (w, x.digits.1.0, x.digits.1.1, x.second, x.third))
    y p

leap_second : {a : List ℕ} {d : Ymd} {h m : ℕ} → FullDate a d → (r : List ℕ) → LeapSecond d h m → eqb h 23 && (eqb m 59 && is_leap_day (a ++ r)) ≡ true
leap_second f r (june y) = leap_day_of f r
leap_second f r (december y) = leap_day_of f r

leap_test : {a : List ℕ} {d : Ymd} (h m s : ℕ) → FullDate a d → (r : List ℕ) → (s ≡ 60 → LeapSecond d h m) → is_leap (is_leap_day (a ++ r)) h m s ≡ true
leap_test h m s f r l = by_test (eqb s 60) (λ e. rw e (leap_second f r (l (eqb-true s 60 e)))) (λ e. rw e)

-- either day, of any year
on_day : {d : Ymd} {h m : ℕ} (x y : ℕ) → ((z : ℕ) → LeapSecond (record { year = z; month = x; day = y }) 23 59) → h ≡ 23 → m ≡ 59 → eqb d.month x && eqb d.day y ≡ true → LeapSecond d h m
on_day {d} {h} {m} x y l p q e =
    let f = both (eqb d.month x) (eqb d.day y) e in
    let w : LeapSecond (record { year = d.year; month = d.month; day = d.day }) h m = rw (p, q, eqb-true d.month x f.0, eqb-true d.day y f.1) (l d.year) in
    w

leap_fact : {a : List ℕ} {d : Ymd} (h m s : ℕ) → FullDate a d → (r : List ℕ) → is_leap (is_leap_day (a ++ r)) h m s ≡ true → s ≡ 60 → LeapSecond d h m
leap_fact {a} {d} h m s f r e p =
    let u = both (eqb h 23) (eqb m 59 && is_leap_day (a ++ r)) (rw (eq-eqb s 60 p) at e) in
    let v = both (eqb m 59) (is_leap_day (a ++ r)) u.1 in
    let hour = eqb-true h 23 u.0 in
    let minute = eqb-true m 59 v.0 in
    ⊎_elim (on_day 6 30 june hour minute) (on_day 12 31 december hour minute)
    (or_cases (eqb d.month 6 && eqb d.day 30) (eqb d.month 12 && eqb d.day 31) (sym (leap_day_of f r) ∙ v.1))

-- ---- the size and the last byte of a date, a separator, a time with colons, and what follows
module _ {a h m s x f : List ℕ} {d : Ymd} (p : FullDate a d) (q : Figures 2 h) (r : Figures 2 m) (u : Figures 2 s) (v : Secfrac x f) (b : ℕ) where
  abbrev body : List ℕ
  body = h ++ (0x3A ∷ (m ++ (0x3A ∷ (s ++ x))))

  size : (e : List ℕ) → length (a ++ (b ∷ (body ++ e))) ≡ 19 + length x + length e
  size e =
      omega (
        arith,
        length-append a (b ∷ (body ++ e)),
        length-append body e,
        length-append h (0x3A ∷ (m ++ (0x3A ∷ (s ++ x)))),
        length-append m (0x3A ∷ (s ++ x)),
        length-append s x,
        date_size p,
        size_of q,
        size_of r,
        size_of u,
      )

  tests : (e : List ℕ) → Fields 0x3A (drop 11 (a ++ (b ∷ (body ++ e)))) (value 0 h) (value 0 m) (value 0 s)
  tests e =
      let w : body ++ e ≡ h ++ (0x3A ∷ (m ++ (0x3A ∷ (s ++ (x ++ e))))) = simp append_assoc in
      rw ((seam p b (body ++ e)).1, w) (fields 0x3A h m s (x ++ e) q r u)

  end_with : (z : ℕ) → get_or (a ++ (b ∷ (body ++ (z ∷ [])))) (length (a ++ (b ∷ (body ++ (z ∷ [])))) - 1) 0 ≡ z
  end_with z = last_of a ((b ∷ body) ++ (z ∷ [])) (omega arith) ∙ last_of (b ∷ body) (z ∷ []) (omega arith)

  -- an offset in figures ends with a digit
  end_of_figures : {e : List ℕ} {o : Offset} → Numeric e o → is_digit (get_or (a ++ (b ∷ (body ++ e))) (length (a ++ (b ∷ (body ++ e))) - 1) 0) ≡ true
  end_of_figures {e} n =
      let k : 0 < length e = omega (arith, ap length (front n).begins) in
      rw (last_of a ((b ∷ body) ++ e) (omega arith), last_of (b ∷ body) e k) (last n)

pub site_test_lem : {t : List ℕ} {d : Ymd} {c : Clock} → SiteStamp t d c → is_site t ≡ true
unfolding is_site
site_test_lem (site a h m s x f p q r u v n l) =
    let y = tests p q r u v 0x54 (0x5A ∷ []) in
    let k = secfrac_size v in
    let e : List ℕ = 0x5A ∷ [] in
    rw (
      (seam p 0x54 ((h ++ (0x3A ∷ (m ++ (0x3A ∷ (s ++ x))))) ++ e)).0,
      colons_lem y,
      le-leb (length (a ++ (0x54 ∷ ((h ++ (0x3A ∷ (m ++ (0x3A ∷ (s ++ x))))) ++ e)))) 30 (omega (arith, size p q r u v 0x54 e)),
      end_with p q r u v 0x54 0x5A,
      y.first,
      y.second,
      y.third,
      leap_test (value 0 h) (value 0 m) (value 0 s) p (0x54 ∷ ((h ++ (0x3A ∷ (m ++ (0x3A ∷ (s ++ x))))) ++ e)) l,
    )

-- ---- a stamp that passes the test is a site stamp

no_colons : (h m r : List ℕ) → Figures 2 h → Figures 2 m → has_colons (h ++ (m ++ r)) ≡ false
no_colons h m r p q =
    by_two (λ h. has_colons (h ++ (m ++ r)) ≡ false)
    (λ a b fa fb. by_two (λ m. has_colons (a ∷ b ∷ (m ++ r)) ≡ false) (λ c d fc fd. rw (not_sign c 0x3A fc (inr (omega arith)), fa, fb)) m q)
    h p

-- the tests, one by one
record Passed (t : List ℕ) : Type 0 where
  separator : eqb (get_or t 10 0) 0x54 ≡ true
  colon : has_colons (drop 11 t) ≡ true
  short : length t ≤ 30
  last : eqb (get_or t (length t - 1) 0) 0x5A ≡ true
  leap : is_leap (is_leap_day t) (two_at (drop 11 t) 0) (two_at (drop 11 t) 3) (two_at (drop 11 t) 6) ≡ true

passed : (t : List ℕ) → is_site t ≡ true → Passed t
unfolding is_site
passed t e =
    let z : Bool = is_leap (is_leap_day t) (two_at (drop 11 t) 0) (two_at (drop 11 t) 3) (two_at (drop 11 t) 6) in
    let y : Bool = eqb (get_or t (length t - 1) 0) 0x5A in
    let p = and_right (eqb (get_or t 10 0) 0x54) (has_colons (drop 11 t) && (leb (length t) 30 && (y && z))) e in
    let q = and_right (has_colons (drop 11 t)) (leb (length t) 30 && (y && z)) p in
    let r = and_right (leb (length t) 30) (y && z) q in
    record {
      separator = and_left (eqb (get_or t 10 0) 0x54) (has_colons (drop 11 t) && (leb (length t) 30 && (y && z))) e;
      colon = and_left (has_colons (drop 11 t)) (leb (length t) 30 && (y && z)) p;
      short = leb-true (length t) 30 (and_left (leb (length t) 30) (y && z) q);
      last = and_left y z r;
      leap = and_right y z r;
    }

-- and so does a stamp with colons and no ending
open_end : {a s x f : List ℕ} {d : Ymd} (h m : List ℕ) (b : ℕ) → FullDate a d → Figures 2 s → Secfrac x f → is_digit (get_or (a ++ (b ∷ (h ++ (0x3A ∷ (m ++ (0x3A ∷ (s ++ x))))))) (length (a ++ (b ∷ (h ++ (0x3A ∷ (m ++ (0x3A ∷ (s ++ x))))))) - 1) 0) ≡ true
open_end {a} {s} {x} h m b p u v =
    let two : 0 < length (s ++ x) = omega (arith, length-append s x, size_of u) in
    let q : 0 < length (m ++ (0x3A ∷ (s ++ x))) = omega (arith, length-append m (0x3A ∷ (s ++ x))) in
    let r : 0 < length (h ++ (0x3A ∷ (m ++ (0x3A ∷ (s ++ x))))) = omega (arith, length-append h (0x3A ∷ (m ++ (0x3A ∷ (s ++ x))))) in
    subst (λ (y : ℕ). is_digit y ≡ true)
    (sym
    (last_of a (b ∷ (h ++ (0x3A ∷ (m ++ (0x3A ∷ (s ++ x)))))) (omega arith) ∙
    last_of (b ∷ []) (h ++ (0x3A ∷ (m ++ (0x3A ∷ (s ++ x))))) r ∙
    last_of h (0x3A ∷ (m ++ (0x3A ∷ (s ++ x)))) (omega arith) ∙
    last_of (0x3A ∷ []) (m ++ (0x3A ∷ (s ++ x))) q ∙
    last_of m (0x3A ∷ (s ++ x)) (omega arith) ∙
    last_of (0x3A ∷ []) (s ++ x) two))
    (seconds_end u v)

site_time : {a b n : List ℕ} {d : Ymd} {c : Clock} {o : Offset} (s : ℕ) → FullDate a d → PartialTime b c → Ending n o → Passed (a ++ (s ∷ (b ++ n))) → SiteStamp (a ++ (s ∷ (b ++ n))) d c × (o ≡ utc)
site_time {a} {d = d} k p (colons h m s x f q r u v) none_given y =
    both_ways (eqb (get_or t (length t - 1) 0) 0x5A) (not_sign (get_or t (length t - 1) 0) 0x5A (rw append-nil (open_end h m k p u v)) (inr (omega arith))) y.last
  where
    t : List ℕ
    t = a ++ (k ∷ ((h ++ (0x3A ∷ (m ++ (0x3A ∷ (s ++ x))))) ++ []))
site_time {a} {d = d} k p (colons h m s x f q r u v) small_z y =
    absurd (false≢true (rw (end_with p q r u v k 0x7A) at y.last))
site_time {a} {n = n} {d = d} k p (colons h m s x f q r u v) (in_figures e) y =
    both_ways (eqb (get_or t (length t - 1) 0) 0x5A) (not_sign (get_or t (length t - 1) 0) 0x5A (end_of_figures p q r u v k e) (inr (omega arith))) y.last
  where
    t : List ℕ
    t = a ++ (k ∷ ((h ++ (0x3A ∷ (m ++ (0x3A ∷ (s ++ x))))) ++ n))
site_time {a} {d = d} k p (colons h m s x f q r u v) capital_z y =
    let w = tests p q r u v k (0x5A ∷ []) in
    let e : k ≡ 0x54 = eqb-true k 0x54 (rw (seam p k ((h ++ (0x3A ∷ (m ++ (0x3A ∷ (s ++ x))))) ++ (0x5A ∷ []))).0 at y.separator) in (
      rw e (site a h m s x f p q r u v
          (omega (arith, y.short, size p q r u v k (0x5A ∷ []), secfrac_size v))
          (leap_fact (value 0 h) (value 0 m) (value 0 s) p _ (rw (w.first, w.second, w.third) at y.leap))),
      refl,
    )
site_time {a} {n = n} k p (basic h m s q r u) e y =
    both_ways (has_colons (drop 11 (a ++ (k ∷ ((h ++ (m ++ s)) ++ n))))) (rw ((seam p k ((h ++ (m ++ s)) ++ n)).1, whole) (no_colons h m (s ++ n) q r)) y.colon
  where
    whole : (h ++ (m ++ s)) ++ n ≡ h ++ (m ++ (s ++ n))
    whole = simp append_assoc

pub site_of : {t : List ℕ} {d : Ymd} {c : Clock} {o : Offset} → Stamp t d c o → is_site t ≡ true → SiteStamp t d c × (o ≡ utc)
site_of (date_alone {t} f) e =
    absurd (false≢true (rw (get_or-eq_default t 0 {n = 10} (omega (arith, date_size f))) at (passed t e).separator))
site_of (date_time a b n s f g p q w) e = site_time s f p q (passed (a ++ (s ∷ (b ++ n))) e)

-- ---- the theorems

-- what is accepted: the moment that the plain reader names, in 64 bits, of a site stamp, and what is told of it
record From (t : List ℕ) (x : Marked) : Type 0 where
  moment_is : Moment
  named : datetime t ≡ accepted moment_is
  fits : in_signed 63 (instant moment_is) ≡ true
  tests : is_site t ≡ true
  told : marked (instant moment_is) moment_is.time.leap ≡ x

accepted_from : (t : List ℕ) (x : Marked) → site_marked t ≡ accepted x → From t x
accepted_from t x = by (datetime t) refl
  where
    by : (o : Outcome Moment) → datetime t ≡ o → and_then o (on_moment t) ≡ accepted x → From t x
    by (refused n) p e = clash e
    by (accepted m) p e =
        by_test (in_signed 63 (instant m))
        (λ f.
        by_test (is_site t)
        (λ s.
        let q : accepted (marked (instant m) m.time.leap) ≡ accepted x = rw (f, s) at e in
        record { moment_is = m; named = p; fits = f; tests = s; told = cc })
        (λ s. clash (rw (f, s) at e)))
        (λ f. clash (rw f at e))

-- a text is a site stamp and read as nanoseconds and a mark exactly where it is accepted with them
pub agrees : (t : List ℕ) (x : Marked) → SiteReads t x ↔ (site_marked t ≡ accepted x)
agrees t x = (into, λ e. let y = accepted_from t x e in rw (← y.told) (from y.tests y.fits ((stamps.agrees t y.moment_is).1 y.named)))
  where
    into : {x : Marked} → SiteReads t x → site_marked t ≡ accepted x
    into (site_reads {d = d} {c = c} z s e ok fits) =
        let n = held_nanos c in
        rw ((stamps.agrees t (moment z (held_clock c))).0 (names z (is_plain s) e ok refl (stamps.in_utc_itself c z ok)), n, fits, site_test_lem s)

    from : {m : Moment} → is_site t ≡ true → in_signed 63 (instant m) ≡ true → Names t m → SiteReads t (marked (instant m) m.time.leap)
    from {m} s fits (names {c = c} {o = o} z p e ok r u) =
        let k = site_of p s in
        let x : Moment = moment z (held_clock c) in
        let v : InUtc x utc m = subst (λ (p : Offset). InUtc x p m) k.1 u in
        let w : x ≡ m = sym ((in_utc_agrees x utc x refl).0 (stamps.in_utc_itself c z ok)) ∙ (in_utc_agrees x utc m refl).0 v in
        let n = held_nanos c in
        rw (← w, n) (site_reads z k.0 e ok (rw (← w, n) at fits))

-- its value is the plain reader's
pub plain_value : (t : List ℕ) (x : Marked) → site_marked t ≡ accepted x → stamp_nanos t ≡ accepted x.nanos
plain_value t x e = let y = accepted_from t x e in rw (y.named, y.fits) (ap (λ (v : Marked). accepted v.nanos) y.told)

-- its mark is set exactly where the second that it writes is 60
pub mark : {t : List ℕ} {d : Ymd} {c : Clock} {x : Marked} → SiteStamp t d c → site_marked t ≡ accepted x → (x.leap ≡ true) ↔ (c.second ≡ 60)
mark {t} {c = c} {x = x} s e =
    let y = accepted_from t x e in
    rw (← y.told) (marks.mark (is_plain s) y.named)
