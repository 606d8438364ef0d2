-- The grammar of times of day and the computation agree: a text is read as a number of nanoseconds exactly where the computation accepts it
-- with that number; it has at most one reading. Assumes nothing.
use mathlib.Core.Path.{◌≡◌, refl, sym, ap, ◌∙◌, subst}
use mathlib.Core.Bool.{Bool, true, false, cond, ◌&&◌}
use mathlib.Core.Logic.{inr, ⊎_elim, ◌↔◌}
use mathlib.Core.List.{List, [], ◌∷◌, ◌++◌}
use Rattle.std.specs.Prelude.{Option, None, Some}
use Prim.Native.Nat.{ℕ, suc, ◌+◌, ◌-◌, ◌*◌, ◌%◌, ◌≤◌, ◌<◌}
use native.Mathlib.Omega.{arith}
use lib.Dec.{eqb, leb, ltb, lit<}
use lib.ListN.{length, get_or, take, drop, length-append, take-append-drop, drop_of_length-le}
use lib.Seq.{take_at, drop-cons, get_or-append-add}
use lib.IntN.{ℤ, pos}
use borrow.Author.Tests.{eqb-true, le-leb, leb-true, le-ltb, ltb-false}
use Rattle.refusal.specs.Outcome.{Outcome, accepted, refused}
use Rattle.text.specs.Digits.{is_digit, worth, digits, value, two_digits}
use Rattle.utf8.specs.Utf8.{utf8, ascii}
use Rattle.text.proofs.Bools.{and_left, and_right, and_false, or_cases, by_test, fails, holds_not}
use Rattle.utf8.proofs.Utf8Agrees as utf
use Rattle.utf8.proofs.Ascii.{ascii_nil, ascii_cons, ascii_append, ascii_utf8}
use Rattle.clock.specs.Clock.{Clock, clock, in_range, nanos_of, since_midnight, held, held_clock, nanos_of_day}
use Rattle.clock.specs.declared.NaiveTime.{NaiveTime}
use Rattle.clock.proofs.Held.{held_nanos}
use Rattle.clock.specs.Grammar.{Figures, Secfrac, no_fraction, fraction}
use Rattle.refusal.proofs.Outcomes.{clash, same}
use Rattle.text.proofs.DigitLists.{all_digits, digits_head, one_value, two_value}
use Rattle.text.proofs.Logic.{none_some, both}
use Rattle.text.proofs.Places.{not_sign, last_of}
use Rattle.clock.proofs.Figures.{by_one, by_two, one_figure, two_figures, size_of, last_figure, seconds_end, ascii_figures, ascii_secfrac}
use Rattle.time.specs.Grammar.{Hour, one, two, Written, minutes, seconds, Letter, upper, lower, TimeOfDay, full, Reads, reads, Refuses, not_utf8, no_time}
use Rattle.time.specs.Grammar as Grammar
use Rattle.time.specs.declared.Half.{Half}
use Rattle.time.specs.declared.Half.TheVariants.{Am, Pm}
use Rattle.time.specs.Answer.{is_letter, half_of, half, hour_of, in_day, fraction_of, with_fraction, after_minutes, after_hour, from_hour, time_of_day, on_time, time_nanos}

-- ---- a time without AM or PM is read

fraction_read : {x f : List ℕ} → Secfrac x f → fraction_of x ≡ Some (nanos_of f)
unfolding nanos_of value
fraction_read no_fraction = refl
fraction_read (fraction {b} {f} p q) = rw (all_digits b f p q)

-- after the hour h and its colon
minutes_read : (p : Option Half) (h : ℕ) (m : List ℕ) → Figures 2 m → after_hour p h m ≡ in_day (value 0 m) 0 0 (hour_of p h)
minutes_read p h = by_two (λ m. after_hour p h m ≡ in_day (value 0 m) 0 0 (hour_of p h)) (λ a b fa fb. rw (two_value a b, fa, fb))

seconds_read : (p : Option Half) (h : ℕ) (m s x f : List ℕ) → Figures 2 m → Figures 2 s → Secfrac x f → after_hour p h (m ++ (0x3A ∷ (s ++ x))) ≡ in_day (value 0 m) (value 0 s) (nanos_of f) (hour_of p h)
seconds_read p h m s x f q r v =
    by_two (λ m. after_hour p h (m ++ (0x3A ∷ (s ++ x))) ≡ in_day (value 0 m) (value 0 s) (nanos_of f) (hour_of p h))
    (λ a b fa fb.
    by_two (λ s. after_hour p h (a ∷ b ∷ 0x3A ∷ (s ++ x)) ≡ in_day (value 0 (a ∷ b ∷ [])) (value 0 s) (nanos_of f) (hour_of p h))
    (λ c d fc fd. rw (two_value a b, two_value c d, fa, fb, fc, fd, fraction_read v)) s r) m q

hour_read : (p : Option Half) (h r : List ℕ) → Hour h → from_hour p (h ++ (0x3A ∷ r)) ≡ after_hour p (value 0 h) r
hour_read p h r (one q) =
    by_one (λ h. from_hour p (h ++ (0x3A ∷ r)) ≡ after_hour p (value 0 h) r) (λ a fa. rw (one_value a, fa)) h q
hour_read p h r (two q) =
    by_two (λ h. from_hour p (h ++ (0x3A ∷ r)) ≡ after_hour p (value 0 h) r)
    (λ a b fa fb. rw (two_value a b, not_sign b 0x3A fb (inr (omega arith)), fa, fb)) h q

written_read : (p : Option Half) {t : List ℕ} {h m s : ℕ} {f : List ℕ} → Written t (clock h m s f) → from_hour p t ≡ in_day m s (nanos_of f) (hour_of p h)
unfolding nanos_of value
written_read p (minutes h m q r) = hour_read p h m q ∙ minutes_read p (value 0 h) m r
written_read p (seconds h m s x f q r u v) = hour_read p h (m ++ (0x3A ∷ (s ++ x))) q ∙ seconds_read p (value 0 h) m s x f r u v

-- ---- it does not end with AM or PM, and with one of them it is read too

written_last : {t : List ℕ} {c : Clock} → Written t c → is_digit (get_or t (length t - 1) 0) ≡ true
written_last (minutes h m q r) =
    rw (last_of h (0x3A ∷ m) (omega arith), last_of (0x3A ∷ []) m (omega (arith, size_of r))) (last_figure r)
written_last (seconds h m s x f q r u v) =
    rw (
      last_of h (0x3A ∷ (m ++ (0x3A ∷ (s ++ x)))) (omega arith),
      last_of (0x3A ∷ []) (m ++ (0x3A ∷ (s ++ x))) (omega (arith, length-append m (0x3A ∷ (s ++ x)))),
      last_of m (0x3A ∷ (s ++ x)) (omega arith),
      last_of (0x3A ∷ []) (s ++ x) (omega (arith, length-append s x, size_of u)),
    )
    (seconds_end u v)

no_half : (t : List ℕ) → is_digit (get_or t (length t - 1) 0) ≡ true → half t ≡ None
no_half t e =
    let b : ℕ = get_or t (length t - 1) 0 in
    let m : is_letter 0x4D b ≡ false = rw (not_sign b 0x4D e (inr (omega arith)), not_sign b 0x6D e (inr (omega arith))) in
    rw (m, and_false (eqb (get_or t (length t - 3) 0) 0x20)) (both_ways (ltb (length t) 4))
  where
    both_ways : (x : Bool) → ◌≡◌ {A = Option Half} (cond x None None) None
    both_ways true = refl
    both_ways false = refl

-- three bytes behind a text that is not empty
last_three : (t : List ℕ) (s a m : ℕ) → 0 < length t → half (t ++ (s ∷ a ∷ m ∷ [])) ≡ half_of s a m
last_three t s a m h =
    rw (le-ltb (length (t ++ (s ∷ a ∷ m ∷ []))) 4 (omega (arith, size)), at 3 0 (omega (arith, size)), at 2 1 (omega (arith, size)), at 1 2 (omega (arith, size)))
  where
    size : length (t ++ (s ∷ a ∷ m ∷ [])) ≡ length t + 3
    size = length-append t (s ∷ a ∷ m ∷ [])

    at : (k j : ℕ) → length (t ++ (s ∷ a ∷ m ∷ [])) - k ≡ length t + j → get_or (t ++ (s ∷ a ∷ m ∷ [])) (length (t ++ (s ∷ a ∷ m ∷ [])) - k) 0 ≡ get_or (s ∷ a ∷ m ∷ []) j 0
    at k j q = ap (λ (i : ℕ). get_or (t ++ (s ∷ a ∷ m ∷ [])) i 0) q ∙ get_or-append-add t (s ∷ a ∷ m ∷ []) j 0

without : (t : List ℕ) (s a m : ℕ) → take (length (t ++ (s ∷ a ∷ m ∷ [])) - 3) (t ++ (s ∷ a ∷ m ∷ [])) ≡ t
without t s a m = take_at t (s ∷ a ∷ m ∷ []) (length (t ++ (s ∷ a ∷ m ∷ [])) - 3) (omega (arith, length-append t (s ∷ a ∷ m ∷ [])))

-- the letters, in either case
is_am : (a m : ℕ) → Letter 0x41 0x61 a → Letter 0x4D 0x6D m → half_of 0x20 a m ≡ Some Am
is_am a m upper upper = refl
is_am a m upper lower = refl
is_am a m lower upper = refl
is_am a m lower lower = refl

is_pm : (a m : ℕ) → Letter 0x50 0x70 a → Letter 0x4D 0x6D m → half_of 0x20 a m ≡ Some Pm
is_pm a m upper upper = refl
is_pm a m upper lower = refl
is_pm a m lower upper = refl
is_pm a m lower lower = refl

written_size : {t : List ℕ} {c : Clock} → Written t c → 0 < length t
written_size (minutes h m q r) = omega (arith, length-append h (0x3A ∷ m))
written_size (seconds h m s x f q r u v) = omega (arith, length-append h (0x3A ∷ (m ++ (0x3A ∷ (s ++ x)))))

-- the time that is written, if it is in range
abbrev pub if_in_range : Clock → Option NaiveTime
if_in_range c = cond (in_range c.hour c.minute c.second) (Some (held_clock c)) None

-- a time whose hour, counted by p, is g
counted : (p : Option Half) {t : List ℕ} {h m s : ℕ} {f : List ℕ} (g : ℕ) → Written t (clock h m s f) → hour_of p h ≡ Some g → from_hour p t ≡ if_in_range (clock g m s f)
counted p g w e = written_read p w ∙ rw e

pub time_read : {t : List ℕ} {c : Clock} → TimeOfDay t c → time_of_day t ≡ if_in_range c
unfolding time_of_day
time_read (full {t} {c} w) = rw (no_half t (written_last w)) (counted None c.hour w refl)
time_read (Grammar.am {t} {h} {m} {s} {f} a b w p q x y) =
    rw (last_three t 0x20 a b (written_size w), is_am a b x y, without t 0x20 a b)
    (counted (Some Am) (h % 12) w (rw (le-leb 1 h p, le-leb h 12 q)))
time_read (Grammar.pm {t} {h} {m} {s} {f} a b w p q x y) =
    rw (last_three t 0x20 a b (written_size w), is_pm a b x y, without t 0x20 a b)
    (counted (Some Pm) (h % 12 + 12) w (rw (le-leb 1 h p, le-leb h 12 q)))

pub complete : {t : List ℕ} {c : Clock} → TimeOfDay t c → in_range c.hour c.minute c.second ≡ true → time_of_day t ≡ Some (held_clock c)
complete d ok = rw ok at (time_read d)

-- ---- a text that is read is a time of the grammar

record FractionIs (x : List ℕ) (n : ℕ) : Type 0 where
  behind : List ℕ
  point : Secfrac x behind
  nanos : nanos_of behind ≡ n

fraction_sound : (x : List ℕ) (n : ℕ) → fraction_of x ≡ Some n → FractionIs x n
unfolding nanos_of value
fraction_sound [] n e = record { behind = []; point = no_fraction; nanos = cc }
fraction_sound (b ∷ []) n e = none_some e
fraction_sound (b ∷ c ∷ f) n e =
    by_test (eqb b 0x2E && digits (c ∷ f))
    (λ p.
    let q = digits_head c f (and_right (eqb b 0x2E) (digits (c ∷ f)) p) in
    let r : Some (nanos_of (c ∷ f)) ≡ Some n = rw p at e in
    rw (eqb-true b 0x2E (and_left (eqb b 0x2E) (digits (c ∷ f)) p)) (record { behind = c ∷ f; point = fraction q.0 q.1; nanos = cc }))
    (λ p. none_some (rw p at e))

-- the time that a text t writes, and what it comes to where p counts the hours
record Found (p : Option Half) (t : List ℕ) (n : NaiveTime) : Type 0 where
  hour : ℕ
  minute : ℕ
  second : ℕ
  behind : List ℕ
  written : Written t (clock hour minute second behind)
  value_is : in_day minute second (nanos_of behind) (hour_of p hour) ≡ Some n

module _ (p : Option Half) (h : List ℕ) (hh : Hour h) where
  seconds_sound : (a b c d : ℕ) (x : List ℕ) (o : Option ℕ) (n : NaiveTime) → is_digit a ≡ true → is_digit b ≡ true → is_digit c ≡ true → is_digit d ≡ true → fraction_of x ≡ o → with_fraction p (value 0 h) (worth a * 10 + worth b) (worth c * 10 + worth d) o ≡ Some n → Found p (h ++ (0x3A ∷ a ∷ b ∷ 0x3A ∷ c ∷ d ∷ x)) n
  seconds_sound a b c d x None n fa fb fc fd g e = none_some e
  seconds_sound a b c d x (Some k) n fa fb fc fd g e =
      let y = fraction_sound x k g in
      record {
        hour = value 0 h;
        minute = value 0 (a ∷ b ∷ []);
        second = value 0 (c ∷ d ∷ []);
        behind = y.behind;
        written = seconds h (a ∷ b ∷ []) (c ∷ d ∷ []) x y.behind hh (two_figures a b fa fb) (two_figures c d fc fd) y.point;
        value_is = rw (two_value a b, two_value c d, y.nanos) e;
      }

  after_minutes_sound : (a b : ℕ) (r : List ℕ) (n : NaiveTime) → is_digit a ≡ true → is_digit b ≡ true → after_minutes p (value 0 h) (worth a * 10 + worth b) r ≡ Some n → Found p (h ++ (0x3A ∷ a ∷ b ∷ r)) n
  unfolding nanos_of value
  after_minutes_sound a b [] n fa fb e =
      record {
        hour = value 0 h;
        minute = value 0 (a ∷ b ∷ []);
        second = 0;
        behind = [];
        written = minutes h (a ∷ b ∷ []) hh (two_figures a b fa fb);
        value_is = rw (two_value a b) e;
      }
  after_minutes_sound a b (k ∷ []) n fa fb e = none_some (rw (and_false (eqb k 0x3A)) at e)
  after_minutes_sound a b (k ∷ c ∷ []) n fa fb e = none_some (rw (and_false (is_digit c), and_false (eqb k 0x3A)) at e)
  after_minutes_sound a b (k ∷ c ∷ d ∷ x) n fa fb e =
      by_test (eqb k 0x3A && two_digits (c ∷ d ∷ x) 0)
      (λ q.
      let s = both (is_digit c) (is_digit d) (and_right (eqb k 0x3A) (two_digits (c ∷ d ∷ x) 0) q) in
      rw (eqb-true k 0x3A (and_left (eqb k 0x3A) (two_digits (c ∷ d ∷ x) 0) q)) (seconds_sound a b c d x (fraction_of x) n fa fb s.0 s.1 refl (rw q at e)))
      (λ q. none_some (rw q at e))

  after_hour_sound : (r : List ℕ) (n : NaiveTime) → after_hour p (value 0 h) r ≡ Some n → Found p (h ++ (0x3A ∷ r)) n
  after_hour_sound [] n e = none_some e
  after_hour_sound (a ∷ []) n e = none_some (rw (and_false (is_digit a)) at e)
  after_hour_sound (a ∷ b ∷ r) n e =
      by_test (two_digits (a ∷ b ∷ r) 0)
      (λ q. let s = both (is_digit a) (is_digit b) q in after_minutes_sound a b r n s.0 s.1 (rw q at e))
      (λ q. none_some (rw q at e))

one_digit : (p : Option Half) (a b : ℕ) (r : List ℕ) (n : NaiveTime) → is_digit a && eqb b 0x3A ≡ true → after_hour p (worth a) r ≡ Some n → Found p (a ∷ b ∷ r) n
one_digit p a b r n q e =
    let d = both (is_digit a) (eqb b 0x3A) q in
    rw (eqb-true b 0x3A d.1) (after_hour_sound p (a ∷ []) (one (one_figure a d.0)) r n (rw (one_value a) e))

from_hour_sound : (p : Option Half) (t : List ℕ) (n : NaiveTime) → from_hour p t ≡ Some n → Found p t n
from_hour_sound p [] n e = none_some e
from_hour_sound p (a ∷ []) n e = none_some (rw (and_false (is_digit a)) at e)
from_hour_sound p (a ∷ b ∷ []) n e =
    by_test (is_digit a && eqb b 0x3A)
    (λ q. one_digit p a b [] n q (rw q at e))
    (λ q. none_some (rw (q, and_false (is_digit a && is_digit b)) at e))
from_hour_sound p (a ∷ b ∷ c ∷ r) n e =
    by_test (is_digit a && eqb b 0x3A)
    (λ q. one_digit p a b (c ∷ r) n q (rw q at e))
    (λ q.
    by_test (two_digits (a ∷ b ∷ []) 0 && eqb c 0x3A)
    (λ s.
    let d = both (is_digit a) (is_digit b) (and_left (two_digits (a ∷ b ∷ []) 0) (eqb c 0x3A) s) in
    rw (eqb-true c 0x3A (and_right (two_digits (a ∷ b ∷ []) 0) (eqb c 0x3A) s))
    (after_hour_sound p (a ∷ b ∷ []) (two (two_figures a b d.0 d.1)) r n (rw (two_value a b) (rw (q, s) at e))))
    (λ s. none_some (rw (q, s) at e)))

-- AM and PM
letter_sound : (c b : ℕ) → is_letter c b ≡ true → Letter c (c + 0x20) b
letter_sound c b e =
    ⊎_elim (λ p. rw (eqb-true b c p) upper) (λ p. rw (eqb-true b (c + 0x20) p) lower) (or_cases (eqb b c) (eqb b (c + 0x20)) e)

-- the last three bytes of a text that has four
three_from : (t : List ℕ) (k : ℕ) → length t ≡ k + 3 → drop k t ≡ get_or t k 0 ∷ get_or t (suc k) 0 ∷ get_or t (suc (suc k)) 0 ∷ []
three_from t k h =
    drop-cons t k 0 (omega arith) ∙
    ap (λ (r : List ℕ). get_or t k 0 ∷ r)
    (drop-cons t (suc k) 0 (omega arith) ∙
    ap (λ (r : List ℕ). get_or t (suc k) 0 ∷ r)
    (drop-cons t (suc (suc k)) 0 (omega arith) ∙ ap (λ (r : List ℕ). get_or t (suc (suc k)) 0 ∷ r) (drop_of_length-le t {i = suc (suc (suc k))} (omega arith))))

three : (t : List ℕ) → ltb (length t) 4 ≡ false → t ≡ take (length t - 3) t ++ (get_or t (length t - 3) 0 ∷ get_or t (length t - 2) 0 ∷ get_or t (length t - 1) 0 ∷ [])
three t h =
    let l = ltb-false (length t) 4 h in
    let p : suc (length t - 3) ≡ length t - 2 = omega arith in
    let q : suc (suc (length t - 3)) ≡ length t - 1 = omega arith in
    sym (take-append-drop (length t - 3) t) ∙
    ap (λ (r : List ℕ). take (length t - 3) t ++ r)
    (three_from t (length t - 3) (omega arith) ∙
    ap (λ (i : ℕ). get_or t (length t - 3) 0 ∷ get_or t i 0 ∷ get_or t (suc (suc (length t - 3))) 0 ∷ []) p ∙
    ap (λ (i : ℕ). get_or t (length t - 3) 0 ∷ get_or t (length t - 2) 0 ∷ get_or t i 0 ∷ []) q)

pub record TimeIs (t : List ℕ) (n : NaiveTime) : Type 0 where
  pub fields : Clock
  pub time : TimeOfDay t fields
  pub ok : in_range fields.hour fields.minute fields.second ≡ true
  pub held_as : held_clock fields ≡ n

-- the hour g of the day is in range where there is a time
in_day_lem : (g m s k : ℕ) (n : NaiveTime) → in_day m s k (Some g) ≡ Some n → (in_range g m s ≡ true) × (held g m s k ≡ n)
in_day_lem g m s k n e =
    by_test (in_range g m s)
    (λ ok. let q : Some (held g m s k) ≡ Some n = rw ok at e in (ok, cc))
    (λ no. none_some (rw no at e))

-- an hour of twelve
twelve : (h g m s k : ℕ) (n : NaiveTime) → in_day m s k (cond (leb 1 h && leb h 12) (Some g) None) ≡ Some n → (1 ≤ h) × (h ≤ 12) × (in_day m s k (Some g) ≡ Some n)
twelve h g m s k n e =
    by_test (leb 1 h && leb h 12)
    (λ q. let d = both (leb 1 h) (leb h 12) q in (leb-true 1 h d.0, leb-true h 12 d.1, rw q at e))
    (λ q. none_some (rw q at e))

-- by the ending: x is what stands before it
module _ (x : List ℕ) (a m : ℕ) (n : NaiveTime) (la : is_letter 0x4D m ≡ true) where
  am_sound : is_letter 0x41 a ≡ true → from_hour (Some Am) x ≡ Some n → TimeIs (x ++ (0x20 ∷ a ∷ m ∷ [])) n
  am_sound l e =
      let f = from_hour_sound (Some Am) x n e in
      let w = twelve f.hour (f.hour % 12) f.minute f.second (nanos_of f.behind) n f.value_is in
      let d = in_day_lem (f.hour % 12) f.minute f.second (nanos_of f.behind) n w.2 in
      record { fields = clock (f.hour % 12) f.minute f.second f.behind; time = Grammar.am a m f.written w.0 w.1 (letter_sound 0x41 a l) (letter_sound 0x4D m la); ok = d.0; held_as = d.1 }

  pm_sound : is_letter 0x50 a ≡ true → from_hour (Some Pm) x ≡ Some n → TimeIs (x ++ (0x20 ∷ a ∷ m ∷ [])) n
  pm_sound l e =
      let f = from_hour_sound (Some Pm) x n e in
      let w = twelve f.hour (f.hour % 12 + 12) f.minute f.second (nanos_of f.behind) n f.value_is in
      let d = in_day_lem (f.hour % 12 + 12) f.minute f.second (nanos_of f.behind) n w.2 in
      record { fields = clock (f.hour % 12 + 12) f.minute f.second f.behind; time = Grammar.pm a m f.written w.0 w.1 (letter_sound 0x50 a l) (letter_sound 0x4D m la); ok = d.0; held_as = d.1 }

full_sound : (t : List ℕ) (n : NaiveTime) → from_hour None t ≡ Some n → TimeIs t n
full_sound t n e =
    let f = from_hour_sound None t n e in
    let d = in_day_lem f.hour f.minute f.second (nanos_of f.behind) n f.value_is in
    record { fields = clock f.hour f.minute f.second f.behind; time = full f.written; ok = d.0; held_as = d.1 }

pub sound : (t : List ℕ) (n : NaiveTime) → time_of_day t ≡ Some n → TimeIs t n
unfolding time_of_day
sound t n e =
    by_test (ltb (length t) 4)
    (λ h. full_sound t n (rw h at e))
    (λ h.
    by_test (eqb s 0x20 && is_letter 0x4D m)
    (λ q.
    let d = both (eqb s 0x20) (is_letter 0x4D m) q in
    let w : t ≡ x ++ (0x20 ∷ a ∷ m ∷ []) = three t h ∙ ap (λ (b : ℕ). x ++ (b ∷ a ∷ m ∷ [])) (eqb-true s 0x20 d.0) in
    by_test (is_letter 0x41 a)
    (λ l. subst (λ (r : List ℕ). TimeIs r n) (sym w) (am_sound x a m n d.1 l (rw (h, q, l) at e)))
    (λ l.
    by_test (is_letter 0x50 a)
    (λ k. subst (λ (r : List ℕ). TimeIs r n) (sym w) (pm_sound x a m n d.1 k (rw (h, q, l, k) at e)))
    (λ k. full_sound t n (rw (h, q, l, k) at e))))
    (λ q. full_sound t n (rw (h, q) at e)))
  where
    s : ℕ
    s = get_or t (length t - 3) 0

    a : ℕ
    a = get_or t (length t - 2) 0

    m : ℕ
    m = get_or t (length t - 1) 0

    x : List ℕ
    x = take (length t - 3) t

-- ---- times are ASCII

ascii_hour : {h : List ℕ} → Hour h → ascii h ≡ true
ascii_hour (one f) = ascii_figures f
ascii_hour (two f) = ascii_figures f

ascii_written : {t : List ℕ} {c : Clock} → Written t c → ascii t ≡ true
ascii_written (minutes h m p q) = ascii_append h (0x3A ∷ m) (ascii_hour p) (ascii_cons 0x3A m (lit< tt) (ascii_figures q))
ascii_written (seconds h m s x f p q r v) =
    ascii_append h (0x3A ∷ (m ++ (0x3A ∷ (s ++ x)))) (ascii_hour p)
    (ascii_cons 0x3A (m ++ (0x3A ∷ (s ++ x))) (lit< tt)
    (ascii_append m (0x3A ∷ (s ++ x)) (ascii_figures q) (ascii_cons 0x3A (s ++ x) (lit< tt) (ascii_append s x (ascii_figures r) (ascii_secfrac v)))))

-- a letter is one of its two cases
ascii_letter : {c s b : ℕ} → c < 0x80 → s < 0x80 → Letter c s b → b < 0x80
ascii_letter p q upper = p
ascii_letter p q lower = q

ascii_ending : (a b : ℕ) → a < 0x80 → b < 0x80 → ascii (0x20 ∷ a ∷ b ∷ []) ≡ true
ascii_ending a b p q = ascii_cons 0x20 (a ∷ b ∷ []) (lit< tt) (ascii_cons a (b ∷ []) p (ascii_cons b [] q ascii_nil))

ascii_time : {t : List ℕ} {c : Clock} → TimeOfDay t c → ascii t ≡ true
ascii_time (full w) = ascii_written w
ascii_time (Grammar.am {t} a b w p q x y) = ascii_append t _ (ascii_written w) (ascii_ending a b (ascii_letter (lit< tt) (lit< tt) x) (ascii_letter (lit< tt) (lit< tt) y))
ascii_time (Grammar.pm {t} a b w p q x y) = ascii_append t _ (ascii_written w) (ascii_ending a b (ascii_letter (lit< tt) (lit< tt) x) (ascii_letter (lit< tt) (lit< tt) y))

-- a text that is read is UTF-8, so that it need not be looked at first
pub read_utf8 : (t : List ℕ) (n : NaiveTime) → time_of_day t ≡ Some n → utf8 t ≡ true
read_utf8 t n e = ascii_utf8 t (ascii_time (sound t n e).time)

-- ---- the theorem

pub agrees : (t : List ℕ) (z : ℤ) → Reads t z ↔ (time_nanos t ≡ accepted z)
agrees t z = (into, λ e. by_test (utf8 t) (λ u. back (time_of_day t) refl (rw u at e)) (λ u. clash (rw u at e)))
  where
    into : {z : ℤ} → Reads t z → time_nanos t ≡ accepted z
    into (reads {c = c} d ok) = rw (ascii_utf8 t (ascii_time d), complete d ok) (ap (λ (n : ℕ). accepted (pos n)) (held_nanos c))

    back : (o : Option NaiveTime) → time_of_day t ≡ o → on_time o ≡ accepted z → Reads t z
    back None p e = clash e
    back (Some n) p e =
        let x = sound t n p in
        let w : since_midnight x.fields ≡ nanos_of_day n = sym (held_nanos x.fields) ∙ ap nanos_of_day x.held_as in
        let q : pos (since_midnight x.fields) ≡ z = cc w in
        rw (← q) (reads x.time x.ok)

-- at most one
pub one_reading : {t : List ℕ} {y z : ℤ} → Reads t y → Reads t z → y ≡ z
one_reading {t} {y} {z} p q = let a = (agrees t y).0 p in let b = (agrees t z).0 q in cc

-- each refused text has the one number that the computation gives
pub refusals : (t : List ℕ) (n : ℕ) → Refuses t n ↔ (time_nanos t ≡ refused n)
refusals t n = (into, λ e. by_test (utf8 t) (λ u. back (time_of_day t) refl u (rw u at e)) (λ u. first u (rw u at e)))
  where
    by : (o : Option NaiveTime) → time_of_day t ≡ o → utf8 t ≡ true → ((z : ℤ) → Reads t z → ⊥) → time_nanos t ≡ refused 7
    by None p u h = rw (u, p)
    by (Some k) p u h = absurd (h (pos (nanos_of_day k)) ((agrees t (pos (nanos_of_day k))).1 (rw (u, p))))

    into : {n : ℕ} → Refuses t n → time_nanos t ≡ refused n
    into (not_utf8 h) = rw (fails (utf8 t) (utf.agrees t).1 h)
    into (no_time u h) = by (time_of_day t) refl ((utf.agrees t).0 u) h

    first : utf8 t ≡ false → ◌≡◌ {A = Outcome ℤ} (refused 1) (refused n) → Refuses t n
    first u e = rw (← same e) (not_utf8 (holds_not u (utf.agrees t).0))

    back : (o : Option NaiveTime) → time_of_day t ≡ o → utf8 t ≡ true → on_time o ≡ refused n → Refuses t n
    back (Some k) p u e = clash (sym e)
    back None p u e =
        let q : time_nanos t ≡ refused 7 = rw (u, p) in
        rw (← same e) (no_time ((utf.agrees t).1 u) (λ z r. clash (sym q ∙ (agrees t z).0 r)))
