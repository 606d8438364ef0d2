-- The grammar of stamps and the computation agree: a text names a moment exactly where the computation accepts it with that moment, and
-- it has at most one reading. Assumes nothing.
use mathlib.Core.Path.{◌≡◌, refl, sym, ap, ◌∙◌, subst}
use mathlib.Core.Bool.{true, false, cond, ◌&&◌, ◌||◌, false≢true}
use mathlib.Core.Logic.{inr, ⊎_elim, ◌↔◌}
use mathlib.Core.List.{List, [], ◌∷◌, ◌++◌, append-nil}
use Rattle.std.specs.Prelude.{Option, None, Some}
use Prim.Native.Nat.{ℕ, ◌+◌, ◌-◌, ◌*◌, ◌<◌}
use native.Mathlib.Omega.{arith}
use lib.Dec.{eqb, leb, ltb, lit<}
use lib.ListN.{length, get_or, drop, length-append, drop_of_length-le}
use lib.Seq.{drop-drop, drop-cons, get_or_at}
use lib.IntN.{ℤ, pos, ◌-ℤ◌, ◌*ℤ◌}
use borrow.Author.Tests.{ne_eqb, eqb-true, eqb-false, leb-true, ltb-true}
use Rattle.calendar.specs.Calendar.{civil}
use Rattle.number.specs.Widths.{in_signed}
use Rattle.refusal.specs.Outcome.{Outcome, accepted, refused, and_then}
use Rattle.refusal.proofs.Outcomes.{clash}
use Rattle.text.specs.Digits.{is_digit, value, two_digits, two_at}
use Rattle.utf8.specs.Utf8.{Utf8, utf8, ascii}
use Rattle.text.proofs.Bools.{and_left, and_right, or_cases, by_test}
use Rattle.utf8.proofs.Ascii.{ascii_cons, ascii_append, ascii_utf8, ascii_then}
use Rattle.utf8.proofs.Utf8Agrees as utf
use Rattle.text.proofs.Logic.{both, none_some}
use Rattle.clock.specs.Clock.{Clock, clock, in_range, nanos_of, since_midnight, held, held_clock}
use Rattle.clock.specs.declared.NaiveTime.{NaiveTime}
use Rattle.clock.proofs.Held.{held_nanos}
use Rattle.text.proofs.DigitLists.{two_value, four_value}
use Rattle.text.proofs.Places.{inside, not_sign, ten}
use Rattle.clock.proofs.Figures.{by_two, by_four, two_figures, four_figures, ascii_figures, ascii_secfrac}
use Rattle.stamp_text.specs.Grammar.{Ymd, FullDate, full_date, PartialTime, colons, basic, Separator, capital, small, space, Stamp, date_alone, date_time}
use Rattle.stamp_text.specs.Answer.{is_date, day_of, Timed, time_of, is_ending, is_separator, on_offset, at_end, on_time, after_date, on_date, plain_moment, datetime, in_nanos, stamp_nanos}
use Rattle.datetime.specs.Moment.{Moment, moment, instant_at, instant}
use Rattle.offset.specs.declared.Offset.{Offset}
use Rattle.offset.specs.Grammar.{utc, no_blank, extended, numeric, Ending, none_given, capital_z, small_z, in_figures}
use Rattle.offset.specs.Utc.{in_range as offset_in_range, ahead, InUtc}
use Rattle.offset.specs.Answer.{offset_of, less}
use Rattle.offset.proofs.Agreement as offsets
use Rattle.offset.proofs.Agreement.{last, ending_utf8}
use Rattle.offset.proofs.Shift.{agrees as offset_moment, is_utc, itself, instant_less}
use Rattle.stamp_text.specs.Meaning.{TimeOffset, zulu, numeric as of_figures, Rfc3339, date_time as rfc, Names, names, Reads, reads}
use Rattle.stamp_text.proofs.LongestTimes.{Ok, if_ok, time_sound, before_ending, eight_bytes, of_grammar}

-- ---- a date is read

-- the bytes of a date, before r
record DateRead (t r : List ℕ) (d : Ymd) : Type 0 where
  shape : is_date (t ++ r) ≡ true
  year : two_at (t ++ r) 0 * 100 + two_at (t ++ r) 2 ≡ d.year
  month : two_at (t ++ r) 5 ≡ d.month
  day : two_at (t ++ r) 8 ≡ d.day
  size : length t ≡ 10
  rest : drop 10 (t ++ r) ≡ r

date_read : {t : List ℕ} {d : Ymd} → FullDate t d → (r : List ℕ) → DateRead t r d
date_read (full_date y m d p q s) r =
    by_four (λ y. DateRead (y ++ (0x2D ∷ (m ++ (0x2D ∷ d)))) r (record { year = value 0 y; month = value 0 m; day = value 0 d }))
    (λ a b c e fa fb fc fe.
    by_two (λ m. DateRead (a ∷ b ∷ c ∷ e ∷ 0x2D ∷ (m ++ (0x2D ∷ d))) r (record { year = value 0 (a ∷ b ∷ c ∷ e ∷ []); month = value 0 m; day = value 0 d }))
    (λ g h fg fh.
    by_two (λ d. DateRead (a ∷ b ∷ c ∷ e ∷ 0x2D ∷ g ∷ h ∷ 0x2D ∷ d) r (record { year = value 0 (a ∷ b ∷ c ∷ e ∷ []); month = value 0 (g ∷ h ∷ []); day = value 0 d }))
    (λ i j fi fj. record {
      shape = rw (fa, fb, fc, fe, fg, fh, fi, fj);
      year = sym (four_value a b c e);
      month = sym (two_value g h);
      day = sym (two_value i j);
      size = refl;
      rest = refl;
    }) d s) m q) y p

-- what stands at byte 10 and after it
pub seam : {a : List ℕ} {d : Ymd} → FullDate a d → (s : ℕ) (q : List ℕ) → (get_or (a ++ (s ∷ q)) 10 0 ≡ s) × (drop 11 (a ++ (s ∷ q)) ≡ q)
seam {a} f s q =
    let x = date_read f (s ∷ q) in
    (get_or_at a s q 0 10 x.size, sym (drop-drop 1 10 (a ++ (s ∷ q))) ∙ ap (drop 1) x.rest)

pub date_size : {t : List ℕ} {d : Ymd} → FullDate t d → length t ≡ 10
date_size f = (date_read f []).size

-- ---- a stamp of the grammar is accepted

pub is_separator_lem : {s : ℕ} → Separator s → is_separator s ≡ true
is_separator_lem capital = refl
is_separator_lem small = refl
is_separator_lem space = refl

day_is : {t : List ℕ} {d : Ymd} → FullDate t d → (r : List ℕ) → day_of (t ++ r) ≡ civil (pos d.year) d.month d.day
unfolding day_of
day_is f r = let x = date_read f r in rw (x.shape, x.year, x.month, x.day)

pub day_read : {t : List ℕ} {d : Ymd} → FullDate t d → (r : List ℕ) (z : ℤ) → civil (pos d.year) d.month d.day ≡ Some z → day_of (t ++ r) ≡ Some z
day_read f r z e = day_is f r ∙ e

-- what a stamp of the grammar comes to, by its date and by whether its time and its offset are in range
abbrev pub if_in_range : Clock → Offset → ℤ → Outcome Moment
if_in_range c o z = cond (in_range c.hour c.minute c.second) (on_offset (moment z (held_clock c)) (Some o)) (refused 4)

abbrev pub if_dated : Clock → Offset → Option ℤ → Outcome Moment
if_dated c o None = refused 2
if_dated c o (Some z) = if_in_range c o z

-- the hour and the minute of a time in range
pub hour_minute : (c : Clock) → Ok c → (c.hour < 24) × (c.minute < 60)
hour_minute c ok =
    let r = both (leb c.hour 23) (leb c.minute 59 && leb c.second 60) ok in
    let h = leb-true c.hour 23 r.0 in
    let m = leb-true c.minute 59 (and_left (leb c.minute 59) (leb c.second 60) r.1) in
    (omega arith, omega arith)

-- a time in range, in UTC, is the moment itself
pub in_utc_itself : (c : Clock) (z : ℤ) → Ok c → InUtc (moment z (held_clock c)) utc (moment z (held_clock c))
in_utc_itself c z ok = let b = hour_minute c ok in itself (moment z (held_clock c)) b.0 b.1

in_utc_lem : (c : Clock) (z : ℤ) → Ok c → accepted (moment z (held_clock c)) ≡ on_offset (moment z (held_clock c)) (Some utc)
in_utc_lem c z ok =
    let x : Moment = moment z (held_clock c) in
    ap accepted (sym ((offset_moment x utc x refl).0 (in_utc_itself c z ok)))

-- what ends with a digit is neither nothing nor a Z
no_z : (e : List ℕ) → is_digit (get_or e (length e - 1) 0) ≡ true → is_ending e ≡ false
no_z [] q = absurd (false≢true q)
no_z (b ∷ []) q = rw (not_sign b 0x5A q (inr (omega arith)), not_sign b 0x7A q (inr (omega arith)))
no_z (b ∷ c ∷ e) q = refl

pub at_end_lem : {e : List ℕ} {o : Offset} → Ending e o → (c : Clock) (z : ℤ) → Ok c → at_end z (record { time = held_clock c; tail = e }) ≡ on_offset (moment z (held_clock c)) (Some o)
at_end_lem none_given c z ok = in_utc_lem c z ok
at_end_lem capital_z c z ok = in_utc_lem c z ok
at_end_lem small_z c z ok = in_utc_lem c z ok
at_end_lem {e} (in_figures n) c z ok = rw (no_z e (last n), offsets.read n)

-- behind a date of the calendar: a time in range or none
in_time : {e : List ℕ} {o : Offset} → Ending e o → (c : Clock) (z : ℤ) → on_time at_end z (if_ok c e) ≡ if_in_range c o z
in_time q c z = by_test (in_range c.hour c.minute c.second) (λ ok. rw ok (at_end_lem q c z ok)) (λ no. rw no)

pub stamp_read : {t : List ℕ} {d : Ymd} {c : Clock} {o : Offset} → Stamp t d c o → plain_moment t ≡ if_dated c o (civil (pos d.year) d.month d.day)
unfolding plain_moment nanos_of value
stamp_read {d = d} (date_alone {t} f) = by (civil (pos d.year) d.month d.day) (rw append-nil at (day_is f []))
  where
    by : (o : Option ℤ) → day_of t ≡ o → on_date at_end t (day_of t) ≡ if_dated (clock 0 0 0 []) utc o
    by None e = rw e
    by (Some z) e = rw (e, (date_read f []).size) (in_utc_lem (clock 0 0 0 []) z refl)
stamp_read {d = d} {c = c} {o = k} (date_time a b n s f g p q w) = by (civil (pos d.year) d.month d.day) (day_is f (s ∷ (b ++ n)))
  where
    t : List ℕ
    t = a ++ (s ∷ (b ++ n))

    long : length t ≡ 10 → ⊥
    long h = omega (arith, length-append a (s ∷ (b ++ n)), date_size f)

    by : (o : Option ℤ) → day_of t ≡ o → on_date at_end t (day_of t) ≡ if_dated c k o
    by None e = rw e
    by (Some z) e =
        let y = seam f s (b ++ n) in
        rw (e, ne_eqb (length t) 10 long, y.0, is_separator_lem g, y.1, before_ending p q w) (in_time q c z)

pub complete : {t : List ℕ} {m : Moment} → Names t m → plain_moment t ≡ accepted m
complete {m = m} (names {c = c} {o = o} z s e ok r u) =
    rw (e, ok, r) at (stamp_read s) ∙ ap accepted ((offset_moment (moment z (held_clock c)) o m r).0 u)

-- ---- an accepted text is a stamp of the grammar

pub record DateIs (t : List ℕ) (z : ℤ) : Type 0 where
  pub date : Ymd
  pub bytes : List ℕ
  pub full : FullDate bytes date
  pub text : t ≡ bytes ++ drop 10 t
  pub size : length bytes ≡ 10
  pub named : civil (pos date.year) date.month date.day ≡ Some z

date_sound : (t : List ℕ) (z : ℤ) → is_date t ≡ true → civil (pos (two_at t 0 * 100 + two_at t 2)) (two_at t 5) (two_at t 8) ≡ Some z → DateIs t z
date_sound t z e n =
    let p = both (two_digits t 0) (two_digits t 2 && (eqb (get_or t 4 0) 0x2D && (two_digits t 5 && (eqb (get_or t 7 0) 0x2D && two_digits t 8)))) e in
    let q = both (two_digits t 2) (eqb (get_or t 4 0) 0x2D && (two_digits t 5 && (eqb (get_or t 7 0) 0x2D && two_digits t 8))) p.1 in
    let r = both (eqb (get_or t 4 0) 0x2D) (two_digits t 5 && (eqb (get_or t 7 0) 0x2D && two_digits t 8)) q.1 in
    let s = both (two_digits t 5) (eqb (get_or t 7 0) 0x2D && two_digits t 8) r.1 in
    let u = both (eqb (get_or t 7 0) 0x2D) (two_digits t 8) s.1 in
    let y1 = both (is_digit (get_or t 0 0)) (is_digit (get_or t 1 0)) p.0 in
    let y2 = both (is_digit (get_or t 2 0)) (is_digit (get_or t 3 0)) q.0 in
    let m = both (is_digit (get_or t 5 0)) (is_digit (get_or t 6 0)) s.0 in
    let d = both (is_digit (get_or t 8 0)) (is_digit (get_or t 9 0)) u.1 in
    record {
      date = record { year = value 0 (get_or t 0 0 ∷ get_or t 1 0 ∷ get_or t 2 0 ∷ get_or t 3 0 ∷ []); month = value 0 (get_or t 5 0 ∷ get_or t 6 0 ∷ []); day = value 0 (get_or t 8 0 ∷ get_or t 9 0 ∷ []) };
      bytes = get_or t 0 0 ∷ get_or t 1 0 ∷ get_or t 2 0 ∷ get_or t 3 0 ∷ 0x2D ∷ get_or t 5 0 ∷ get_or t 6 0 ∷ 0x2D ∷ get_or t 8 0 ∷ get_or t 9 0 ∷ [];
      full = full_date (get_or t 0 0 ∷ get_or t 1 0 ∷ get_or t 2 0 ∷ get_or t 3 0 ∷ []) (get_or t 5 0 ∷ get_or t 6 0 ∷ []) (get_or t 8 0 ∷ get_or t 9 0 ∷ []) (four_figures (get_or t 0 0) (get_or t 1 0) (get_or t 2 0) (get_or t 3 0) y1.0 y1.1 y2.0 y2.1) (two_figures (get_or t 5 0) (get_or t 6 0) m.0 m.1) (two_figures (get_or t 8 0) (get_or t 9 0) d.0 d.1);
      text = rw (eqb-true (get_or t 4 0) 0x2D r.0, eqb-true (get_or t 7 0) 0x2D u.0) at (ten t (inside t 9 d.1));
      size = refl;
      named = rw (four_value (get_or t 0 0) (get_or t 1 0) (get_or t 2 0) (get_or t 3 0), two_value (get_or t 5 0) (get_or t 6 0), two_value (get_or t 8 0) (get_or t 9 0)) n;
    }

-- the date that a text begins with, if the computation finds one
pub date_at : (t : List ℕ) (z : ℤ) → day_of t ≡ Some z → DateIs t z
unfolding day_of
date_at t z e = by_test (is_date t) (λ p. date_sound t z p (rw p at e)) (λ p. none_some (rw p at e))

pub ending_sound : (e : List ℕ) → is_ending e ≡ true → Ending e utc
ending_sound [] p = none_given
ending_sound (b ∷ []) p =
    ⊎_elim (λ q. rw (eqb-true b 0x5A q) capital_z) (λ q. rw (eqb-true b 0x7A q) small_z) (or_cases (eqb b 0x5A) (eqb b 0x7A) p)
ending_sound (b ∷ c ∷ e) p = absurd (false≢true p)

pub separator_sound : (b : ℕ) → is_separator b ≡ true → Separator b
separator_sound b p =
    ⊎_elim (λ q. rw (eqb-true b 0x54 q) capital)
    (λ q. ⊎_elim (λ r. rw (eqb-true b 0x74 r) small) (λ r. rw (eqb-true b 0x20 r) space) (or_cases (eqb b 0x74) (eqb b 0x20) q))
    (or_cases (eqb b 0x54) (eqb b 0x74 || eqb b 0x20) p)

-- the date is read; what follows is nothing, or a separator, a time and an ending
module _ (t : List ℕ) (z : ℤ) (x : DateIs t z) (m : Moment) where
  alone : length t ≡ 10 → accepted (moment z (held 0 0 0 0)) ≡ accepted m → Names t m
  unfolding nanos_of value
  alone h e =
      let q : moment z (held 0 0 0 0) ≡ m = cc in
      let w : t ≡ x.bytes = x.text ∙ ap (λ (r : List ℕ). x.bytes ++ r) (drop_of_length-le t {i = 10} (omega arith)) ∙ append-nil x.bytes in
      rw (← q, w) (names z (date_alone x.full) x.named refl refl (in_utc_itself (clock 0 0 0 []) z refl))

  -- behind a separator and a time: the moment that the ending makes of it
  ended : (length t ≡ 10 → ⊥) → is_separator (get_or t 10 0) ≡ true → (y : Timed) → time_of (drop 11 t) ≡ Some y → (o : Offset) → Ending y.tail o → offset_in_range o ≡ true → InUtc (moment z y.time) o m → Names t m
  ended h s y p o n r u =
      let x' = time_sound (drop 11 t) y p in
      let k = of_grammar x'.time in
      let long : 10 < length t = omega (arith, ap length x.text, length-append x.bytes (drop 10 t), x.size) in
      let w : t ≡ x.bytes ++ (get_or t 10 0 ∷ (k.bytes ++ y.tail)) =
      x.text ∙ ap (λ (r : List ℕ). x.bytes ++ r) (drop-cons t 10 0 long ∙ ap (λ (r : List ℕ). get_or t 10 0 ∷ r) k.text) in
      subst (λ (u : List ℕ). Names u m) (sym w)
      (names z (date_time x.bytes k.bytes y.tail (get_or t 10 0) x.full (separator_sound (get_or t 10 0) s) k.time n k.apart) x.named k.ok r (subst (λ (v : NaiveTime). InUtc (moment z v) o m) x'.held_as u))

  -- in UTC the time that is held is in range
  at_utc : (y : Timed) → time_of (drop 11 t) ≡ Some y → InUtc (moment z y.time) utc (moment z y.time)
  at_utc y p =
      let x' = time_sound (drop 11 t) y p in
      rw x'.held_as (in_utc_itself x'.fields z (of_grammar x'.time).ok)

  at_offset : (length t ≡ 10 → ⊥) → is_separator (get_or t 10 0) ≡ true → (y : Timed) → time_of (drop 11 t) ≡ Some y → (o : Option Offset) → offset_of y.tail ≡ o → on_offset (moment z y.time) o ≡ accepted m → Names t m
  at_offset h s y p None q e = clash e
  at_offset h s y p (Some o) q e =
      by_test (offset_in_range o)
      (λ r.
      let v : accepted (less (moment z y.time) o) ≡ accepted m = rw r at e in
      let w : less (moment z y.time) o ≡ m = cc in
      ended h s y p o (in_figures (offsets.sound y.tail o q)) r ((offset_moment (moment z y.time) o m r).1 w))
      (λ r. clash (rw r at e))

  at_time : (length t ≡ 10 → ⊥) → is_separator (get_or t 10 0) ≡ true → (o : Option Timed) → time_of (drop 11 t) ≡ o → on_time at_end z o ≡ accepted m → Names t m
  at_time h s None p e = clash e
  at_time h s (Some y) p e =
      by_test (is_ending y.tail)
      (λ n.
      let q : accepted (moment z y.time) ≡ accepted m = rw n at e in
      let v : moment z y.time ≡ m = cc in
      ended h s y p utc (ending_sound y.tail n) refl (subst (λ (u : Moment). InUtc (moment z y.time) utc u) v (at_utc y p)))
      (λ n. at_offset h s y p (offset_of y.tail) refl (rw n at e))

  after : after_date at_end t z ≡ accepted m → Names t m
  after e =
      by_test (eqb (length t) 10)
      (λ h. alone (eqb-true (length t) 10 h) (rw h at e))
      (λ h.
      by_test (is_separator (get_or t 10 0))
      (λ s. at_time (eqb-false (length t) 10 h) s (time_of (drop 11 t)) refl (rw (h, s) at e))
      (λ s. clash (rw (h, s) at e)))

pub sound : (t : List ℕ) (m : Moment) → plain_moment t ≡ accepted m → Names t m
unfolding plain_moment day_of
sound t m e =
    by_test (is_date t)
    (λ p. by (civil (pos (two_at t 0 * 100 + two_at t 2)) (two_at t 5) (two_at t 8)) (date_sound t) p (rw p at e))
    (λ p. clash (rw p at e))
  where
    by : (o : Option ℤ) → ((z : ℤ) → is_date t ≡ true → o ≡ Some z → DateIs t z) → is_date t ≡ true → on_date at_end t o ≡ accepted m → Names t m
    by None f p e = clash e
    by (Some z) f p e = after t z (f z p refl) m e

-- ---- stamps are ASCII but for white space before an offset, and UTF-8

ascii_date : {t : List ℕ} {d : Ymd} → FullDate t d → ascii t ≡ true
ascii_date (full_date y m d p q r) =
    ascii_append y _ (ascii_figures p) (ascii_cons 0x2D _ (lit< tt) (ascii_append m _ (ascii_figures q) (ascii_cons 0x2D d (lit< tt) (ascii_figures r))))

ascii_time : {t : List ℕ} {c : Clock} → PartialTime t c → ascii t ≡ true
ascii_time (colons h m s x f p q r v) =
    ascii_append h _ (ascii_figures p)
    (ascii_cons 0x3A _ (lit< tt) (ascii_append m _ (ascii_figures q) (ascii_cons 0x3A _ (lit< tt) (ascii_append s x (ascii_figures r) (ascii_secfrac v)))))
ascii_time (basic h m s p q r) = ascii_append h _ (ascii_figures p) (ascii_append m s (ascii_figures q) (ascii_figures r))

ascii_separator : {s : ℕ} → Separator s → s < 0x80
ascii_separator capital = lit< tt
ascii_separator small = lit< tt
ascii_separator space = lit< tt

-- ASCII in front of what is well-formed
before_utf8 : (s : List ℕ) {t : List ℕ} → ascii s ≡ true → Utf8 t → Utf8 (s ++ t)
unfolding ascii
before_utf8 [] e u = u
before_utf8 (b ∷ s) e u = ascii_then (ltb-true b 0x80 (and_left (ltb b 0x80) (ascii s) e)) (before_utf8 s (and_right (ltb b 0x80) (ascii s) e) u)

pub stamp_utf8 : {t : List ℕ} {d : Ymd} {c : Clock} {o : Offset} → Stamp t d c o → utf8 t ≡ true
stamp_utf8 (date_alone {t} f) = ascii_utf8 t (ascii_date f)
stamp_utf8 (date_time a b e s f g p q w) =
    utf.complete (before_utf8 a (ascii_date f) (ascii_then (ascii_separator g) (before_utf8 b (ascii_time p) (ending_utf8 q))))

named_utf8 : {t : List ℕ} {m : Moment} → Names t m → utf8 t ≡ true
named_utf8 (names z s e ok r u) = stamp_utf8 s

-- a text that is accepted is UTF-8, so that it need not be looked at first
pub read_utf8 : (t : List ℕ) (m : Moment) → plain_moment t ≡ accepted m → utf8 t ≡ true
read_utf8 t m e = named_utf8 (sound t m e)

-- ---- the theorems

-- a text names a moment exactly where it is accepted with that moment
pub agrees : (t : List ℕ) (m : Moment) → Names t m ↔ (datetime t ≡ accepted m)
agrees t m = (λ n. rw (named_utf8 n) (complete n), λ e. by_test (utf8 t) (λ u. sound t m (rw u at e)) (λ u. clash (rw u at e)))

-- at most one
pub one_moment : {t : List ℕ} {m n : Moment} → Names t m → Names t n → m ≡ n
one_moment p q = let x = complete p in let y = complete q in cc

-- a text is read as a number of nanoseconds exactly where it is accepted with that number
pub read_as : (t : List ℕ) (z : ℤ) → Reads t z ↔ (stamp_nanos t ≡ accepted z)
read_as t z = (into, back (datetime t) refl)
  where
    into : {z : ℤ} → Reads t z → stamp_nanos t ≡ accepted z
    into (reads m n f) = rw ((agrees t m).0 n, f)

    back : (o : Outcome Moment) → datetime t ≡ o → and_then o (λ m. in_nanos (instant m)) ≡ accepted z → Reads t z
    back (accepted m) e p =
        by_test (in_signed 63 (instant m))
        (λ f. let q : accepted (instant m) ≡ accepted z = rw f at p in let v : instant m ≡ z = cc in rw (← v) (reads m ((agrees t m).1 e) f))
        (λ f. clash (rw f at p))
    back (refused k) e p = clash p

-- a stamp of a day of the calendar, in range, is accepted with the nanoseconds from 1970-01-01 to what it writes less the offset, where they fit
abbrev pub stamp_instant : ℤ → Clock → Offset → ℤ
stamp_instant z c o = instant_at z (since_midnight c) -ℤ ahead o *ℤ pos 60000000000

pub value_read : {t : List ℕ} {d : Ymd} {c : Clock} {o : Offset} (z : ℤ) → Stamp t d c o → civil (pos d.year) d.month d.day ≡ Some z → Ok c → offset_in_range o ≡ true → in_signed 63 (stamp_instant z c o) ≡ true → stamp_nanos t ≡ accepted (stamp_instant z c o)
value_read {t} {c = c} {o = o} z s e ok r fits =
    let x : Moment = moment z (held_clock c) in
    let u = is_utc x o r in
    let n : instant (less x o) ≡ stamp_instant z c o = instant_less u ∙ ap (λ (k : ℕ). instant_at z k -ℤ ahead o *ℤ pos 60000000000) (held_nanos c) in
    (read_as t (stamp_instant z c o)).0 (rw (← n) (reads (less x o) (names z s e ok r u) (rw n fits)))

-- and so is every date-time of RFC 3339 (second 60 as document 01 narrows it)
is_stamp : {t : List ℕ} {d : Ymd} {c : Clock} {o : Offset} → Rfc3339 t d c o → Stamp t d c o
is_stamp (rfc a h m s x f e t p q r u v w y) =
    date_time a _ e t p (⊎_elim (λ e. rw e capital) (λ e. rw e small) q) (colons h m s x f r u v w) (ends y) (λ z. absurd (eight_bytes r u v x z))
  where
    ends : {e : List ℕ} {o : Offset} → TimeOffset e o → Ending e o
    ends (zulu z q) = ⊎_elim (λ e. rw e capital_z) (λ e. rw e small_z) q
    ends (of_figures {t = t} n) = in_figures (numeric [] t no_blank (extended n))

pub rfc3339 : {t : List ℕ} {d : Ymd} {c : Clock} {o : Offset} (z : ℤ) → Rfc3339 t d c o → civil (pos d.year) d.month d.day ≡ Some z → Ok c → offset_in_range o ≡ true → in_signed 63 (stamp_instant z c o) ≡ true → stamp_nanos t ≡ accepted (stamp_instant z c o)
rfc3339 z r = value_read z (is_stamp r)
