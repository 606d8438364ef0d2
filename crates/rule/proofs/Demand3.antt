-- DEMAND 3, the record `Demand3`, proved for every limit of fraction digits, every default unit and every text by `demand3`. Assumes nothing.
use mathlib.Core.Path.{◌≡◌, refl, sym, ap, ◌∙◌}
use mathlib.Core.Bool.{Bool, true, false, cond, ◌&&◌, ◌||◌, false≢true}
use mathlib.Core.Logic.{⊎_elim, ◌↔◌}
use mathlib.Core.List.{List, [], ◌∷◌, ◌++◌}
use Rattle.std.specs.Prelude.{Option, None, Some}
use Rattle.std.proofs.lemmas.Option.{none-some}
use Prim.Native.Nat.{ℕ, suc, ◌*◌, ◌/◌, ◌%◌}
use native.Mathlib.Omega.{arith}
use lib.Dec.{eqb}
use lib.IntN.{ℤ, pos, negsuc, neg_ℤ, nat_abs, ◌+ℤ◌, ◌*ℤ◌}
use lib.Signed.{quot_z}
use borrow.Author.Tests.{eqb-true, eq-eqb}
use Rattle.utf8.specs.Utf8.{utf8}
use Rattle.text.proofs.Bools.{and_left, and_right, or_cases, both_ways, by_test}
use Rattle.utf8.proofs.Utf8Agrees as Utf8Agrees
use Rattle.number.specs.Widths.{in_signed}
use Rattle.number.proofs.Zed.{abs_neg, abs_zero, eq_of, P-neg, N-neg, mul_p, mul_n}
use Rattle.refusal.specs.Outcome.{Outcome, accepted, refused}
use Rattle.unit.specs.Units.{rank}
use Rattle.amount.specs.Grammar.{Value, Amount}
use Rattle.component.specs.Grammar.{Component, Complete, glued, apart, Divides, bare, last, more}
use Rattle.component.specs.Division.{divide}
use Rattle.component.specs.Spelled.{unit_for}
use Rattle.unit.specs.declared.IntervalUnit.{IntervalUnit}
use Rattle.unit.specs.declared.IntervalUnit.TheVariants.{Year, Day}
use Rattle.amount.proofs.AmountLaws.{amount_value}
use Rattle.component.proofs.Agreement.{agrees, unique, divided_utf8}
use Rattle.unit.proofs.Numbering.{same_unit}
use Rattle.rule.specs.Contribution.{Counts, counts, contribution, fits, plus, zeros}
use Rattle.rule.specs.Answer.{gives, totals, has, twice, on_totals, on_division, month_day_nano, to_year_months, day_time_fits, to_day_time, or_narrowed, narrowed, year_month, day_time}
use Rattle.rule.specs.Meaning.{Runs, done, add, Repeats, two, Means, totalled, not_utf8, undivided, repeated, unfit, YearMonths, months_alone, DayTimes, in_days, Narrows, held, unheld, no_counts, DayTime, day_time_of}
use Rattle.rule.proofs.Cuts.{quot_signed}

-- ---- a test or an option that is not the one is the other

not-true : (b : Bool) → (b ≡ true → ⊥) → b ≡ false
not-true true f = absurd (f refl)
not-true false f = refl

none_left : {A : Type 0} (o : Option A) → ((a : A) → o ≡ Some a → ⊥) → o ≡ None
none_left None f = refl
none_left (Some a) f = absurd (f a refl)

or_true : (b : Bool) → b || true ≡ true
or_true true = refl
or_true false = refl

-- ---- a unit comes twice

module _ (u : IntervalUnit) where
  -- a component of the list has the unit v
  record Has (v : IntervalUnit) (l : List Component) : Type 0 where
    front : List Component
    this : Component
    rest : List Component
    split : l ≡ front ++ (this ∷ rest)
    unit : v ≡ unit_for u this

  has_is : (v : IntervalUnit) (l : List Component) → has u v l ≡ true → Has v l
  unfolding has
  has_is v [] e = absurd (false≢true e)
  has_is v (c ∷ l) e =
      ⊎_elim
      (λ p. record { front = []; this = c; rest = l; split = refl; unit = same_unit v (unit_for u c) p })
      (λ p. let h = has_is v l p in record { front = c ∷ h.front; this = h.this; rest = h.rest; split = ap (λ (x : List Component). c ∷ x) h.split; unit = h.unit })
      (or_cases (eqb (rank v) (rank (unit_for u c))) (has u v l) e)

  is_has : (v : IntervalUnit) (a : List Component) (c : Component) (b : List Component) → v ≡ unit_for u c → has u v (a ++ (c ∷ b)) ≡ true
  unfolding has
  is_has v [] c b e = rw (eq-eqb (rank v) (rank (unit_for u c)) (ap rank e))
  is_has v (x ∷ a) c b e = rw (is_has v a c b e) (or_true (eqb (rank v) (rank (unit_for u x))))

  longer : (c : Component) {l : List Component} → Repeats u l → Repeats u (c ∷ l)
  longer c (two x y d d' d'' e) = two x y (c ∷ d) d' d'' e

  twice_repeats : (l : List Component) → twice u l ≡ true → Repeats u l
  unfolding twice
  twice_repeats [] e = absurd (false≢true e)
  twice_repeats (c ∷ l) e =
      ⊎_elim
      (λ p. let h = has_is (unit_for u c) l p in rw h.split (two c h.this [] h.front h.rest h.unit))
      (λ p. longer c (twice_repeats l p))
      (or_cases (has u (unit_for u c) l) (twice u l) e)

  two_twice : (d : List Component) (x y : Component) (d' d'' : List Component) → unit_for u x ≡ unit_for u y → twice u (d ++ (x ∷ (d' ++ (y ∷ d'')))) ≡ true
  unfolding twice
  two_twice [] x y d' d'' e = rw (is_has (unit_for u x) d' y d'' e)
  two_twice (c ∷ d) x y d' d'' e = rw (two_twice d x y d' d'' e) (or_true (has u (unit_for u c) (d ++ (x ∷ (d' ++ (y ∷ d''))))))

  repeats_twice : {l : List Component} → Repeats u l → twice u l ≡ true
  repeats_twice (two x y d d' d'' e) = two_twice d x y d' d'' e

  -- the two ways to say that a unit comes twice are the same
  pub repeats : (l : List Component) → Repeats u l ↔ (twice u l ≡ true)
  repeats l = (repeats_twice, twice_repeats l)

  once : {l : List Component} → (Repeats u l → ⊥) → twice u l ≡ false
  once {l} f = not-true (twice u l) (λ e. f (twice_repeats l e))

  not_twice : {l : List Component} → twice u l ≡ false → Repeats u l → ⊥
  not_twice {l} e r = both_ways (twice u l) e (repeats_twice r)

-- ---- running totals

-- each component of a list has an amount
pub data Amounts (n : ℕ) : List Component → Type 0 where
  no_more : Amounts n []
  one_more : {p : Component} {d : List Component} {v : Value} → Amount n p.amount v → Amounts n d → Amounts n (p ∷ d)

complete_amounts : {n : ℕ} {t : List ℕ} {c : Component} {d : List Component} → Complete n t c → Amounts n d → Amounts n (c ∷ d)
complete_amounts (glued A e) M = one_more A M
complete_amounts (apart A w e) M = one_more A M

pub amounts : {n : ℕ} {t : List ℕ} {d : List Component} → Divides n t d → Amounts n d
amounts (bare A) = one_more A no_more
amounts (last C) = complete_amounts C no_more
amounts (more C w D) = complete_amounts C (amounts D)

module _ (n : ℕ) (u : IntervalUnit) where
  -- a component gives the contribution of its amount's value
  gives_value : (p : Component) {v : Value} → Amount n p.amount v → gives n u p ≡ contribution n (unit_for u p) v
  unfolding gives
  gives_value p A = rw (amount_value A)

  -- where a contribution k and the totals with it fit, they are added
  added : (c k : Counts) (d : List Component) → fits k ≡ true → fits (plus c k) ≡ true → cond (fits k && fits (plus c k)) (totals n u (plus c k) d) None ≡ totals n u (plus c k) d
  added c k d f g = rw (f, g)

  pub runs_totals : {c e : Counts} {d : List Component} → Runs n u c d e → totals n u c d ≡ Some e
  unfolding totals
  runs_totals done = refl
  runs_totals (add {c} {p = p} {d} {v} A f g r) = rw (gives_value p A) (added c (contribution n (unit_for u p) v) d f g ∙ runs_totals r)

  pub totals_runs : (c e : Counts) {d : List Component} → Amounts n d → totals n u c d ≡ Some e → Runs n u c d e
  unfolding totals
  totals_runs c e no_more h = let q : c ≡ e = cc in rw q done
  totals_runs c e (one_more {p} {d} {v} A M) h =
      let k : Counts = contribution n (unit_for u p) v in
      by_test (fits k)
      (λ f. by_test (fits (plus c k))
      (λ g. add A f g (totals_runs (plus c k) e M (simp (gives_value p A, f, g) at h)))
      (λ g. absurd (none-some e (simp (gives_value p A, f, g) at h))))
      (λ f. absurd (none-some e (simp (gives_value p A, f) at h)))

-- ---- the answer

module _ (n : ℕ) (u : IntervalUnit) (t : List ℕ) where
  pub undivided_answer : divide n t ≡ None → month_day_nano n u t ≡ cond (utf8 t) (refused 8) (refused 1)
  unfolding month_day_nano on_division
  undivided_answer e = rw e

  -- by the division: a text that has one need not be tested for UTF-8
  pub divided_answer : {d : List Component} → divide n t ≡ Some d → month_day_nano n u t ≡ on_division n u (Some d)
  unfolding month_day_nano
  divided_answer {d} e = rw (divided_utf8 n t d e, e)

  -- so a reader that has the division's answer r tests UTF-8 only where r is 8
  pub but_eight : {r : Outcome Counts} → on_division n u (divide n t) ≡ r → (r ≡ refused 8 → ⊥) → month_day_nano n u t ≡ r
  unfolding on_division
  but_eight {r} e f = from (divide n t) refl e
    where
      from : (o : Option (List Component)) → divide n t ≡ o → on_division n u o ≡ r → month_day_nano n u t ≡ r
      from None p q = absurd (f (sym q))
      from (Some d) p q = divided_answer p ∙ q

  pub eight : on_division n u (divide n t) ≡ refused 8 → month_day_nano n u t ≡ cond (utf8 t) (refused 8) (refused 1)
  unfolding month_day_nano
  eight e = rw e

  computed : {r : Outcome Counts} → Means n u t r → month_day_nano n u t ≡ r
  unfolding month_day_nano on_division on_totals
  computed (totalled {d} {e} D once_each R) = divided_answer ((agrees n t d).0 D) ∙ rw (once u once_each, runs_totals n u R)
  computed (not_utf8 f) = rw (not-true (utf8 t) (λ e. f ((Utf8Agrees.agrees t).1 e)))
  computed (undivided w f) = rw ((Utf8Agrees.agrees t).0 w, none_left (divide n t) (λ d e. f d ((agrees n t d).1 e)))
  computed (repeated {d} D r) = divided_answer ((agrees n t d).0 D) ∙ rw (repeats_twice u r)
  computed (unfit {d} D once_each f) =
      divided_answer ((agrees n t d).0 D) ∙ rw (once u once_each, none_left (totals n u zeros d) (λ e h. f e (totals_runs n u zeros e (amounts D) h)))

  totals_mean : (d : List Component) → Divides n t d → twice u d ≡ false → (o : Option Counts) → totals n u zeros d ≡ o → Means n u t (on_totals o)
  unfolding on_totals
  totals_mean d D e None h = unfit D (not_twice u e) (λ c R. none-some c (sym h ∙ runs_totals n u R))
  totals_mean d D e (Some c) h = totalled D (not_twice u e) (totals_runs n u zeros c (amounts D) h)

  units_mean : (d : List Component) → Divides n t d → (b : Bool) → twice u d ≡ b → Means n u t (cond b (refused 9) (on_totals (totals n u zeros d)))
  units_mean d D true e = repeated D (twice_repeats u d e)
  units_mean d D false e = totals_mean d D e (totals n u zeros d) refl

  division_means : utf8 t ≡ true → (o : Option (List Component)) → divide n t ≡ o → Means n u t (on_division n u o)
  unfolding on_division
  division_means w None h = undivided ((Utf8Agrees.agrees t).1 w) (λ d D. none-some d (sym h ∙ (agrees n t d).0 D))
  division_means w (Some d) h = units_mean d ((agrees n t d).1 h) (twice u d) refl

  -- a text has an answer
  pub answered : Means n u t (month_day_nano n u t)
  unfolding month_day_nano
  answered =
      by_test (utf8 t)
      (λ w. rw w (division_means w (divide n t) refl))
      (λ w. rw w (not_utf8 (λ v. both_ways (utf8 t) w ((Utf8Agrees.agrees t).0 v))))

  -- an answer is the text's exactly where it is the computed one
  pub means : (r : Outcome Counts) → Means n u t r ↔ (month_day_nano n u t ≡ r)
  means r = (computed, λ e. rw e at answered)

-- ---- narrowed forms: hold computes what Holds says

module _ {A : Type 0} (Holds : Counts → A → Type 0) (hold : Counts → Option A) (holds : (c : Counts) (v : A) → Holds c v ↔ (hold c ≡ Some v)) (n : ℕ) (u : IntervalUnit) (t : List ℕ) where
  narrowed_computed : {r : Outcome A} → Narrows Holds n u t r → narrowed hold (month_day_nano n u t) ≡ r
  unfolding narrowed or_narrowed
  narrowed_computed (held {c} {v} M H) = rw (computed n u t M, (holds c v).0 H)
  narrowed_computed (unheld {c} M f) = rw (computed n u t M, none_left (hold c) (λ v e. f v ((holds c v).1 e)))
  narrowed_computed (no_counts M) = rw (computed n u t M)

  held_means : {c : Counts} → Means n u t (accepted c) → (o : Option A) → hold c ≡ o → Narrows Holds n u t (or_narrowed o)
  unfolding or_narrowed
  held_means {c} M None e = unheld M (λ v H. none-some v (sym e ∙ (holds c v).0 H))
  held_means {c} M (Some v) e = held M ((holds c v).1 e)

  outcome_means : (o : Outcome Counts) → Means n u t o → Narrows Holds n u t (narrowed hold o)
  unfolding narrowed
  outcome_means (accepted c) M = held_means M (hold c) refl
  outcome_means (refused k) M = no_counts M

  -- a text has an answer
  pub narrowed_answered : Narrows Holds n u t (narrowed hold (month_day_nano n u t))
  narrowed_answered = outcome_means (month_day_nano n u t) (answered n u t)

  -- an answer is the text's exactly where it is the computed one
  pub narrows : (r : Outcome A) → Narrows Holds n u t r ↔ (narrowed hold (month_day_nano n u t) ≡ r)
  narrows r = (narrowed_computed, λ e. rw e at narrowed_answered)

-- ---- year-month

in_months : (c : Counts) (v : ℤ) → to_year_months c ≡ Some v → YearMonths c v
unfolding to_year_months
in_months c v e =
    by_test (eqb (nat_abs c.days) 0)
    (λ p. by_test (eqb (nat_abs c.nanos) 0)
    (λ q. from c.months c.days c.nanos (abs_zero c.days (eqb-true (nat_abs c.days) 0 p)) (abs_zero c.nanos (eqb-true (nat_abs c.nanos) 0 q)) (rw (p, q) at e))
    (λ q. absurd (none-some v (rw (p, q) at e))))
    (λ p. absurd (none-some v (rw p at e)))
  where
    from : (m d k : ℤ) → d ≡ pos 0 → k ≡ pos 0 → Some m ≡ Some v → YearMonths (counts m d k) v
    from m d k p q r = let w : m ≡ v = cc in rw (p, q, w) months_alone

is_months : {c : Counts} {v : ℤ} → YearMonths c v → to_year_months c ≡ Some v
unfolding to_year_months
is_months months_alone = refl

pub year_month_lem : (n : ℕ) (u : IntervalUnit) (t : List ℕ) (r : Outcome ℤ) → Narrows YearMonths n u t r ↔ (narrowed to_year_months (month_day_nano n u t) ≡ r)
year_month_lem = narrows YearMonths to_year_months (λ c v. (is_months, in_months c v))

-- ---- day-time

-- a multiple of 1,000,000
pub quot_back : (k : ℤ) → quot_z (k *ℤ pos 1_000_000) (pos 1_000_000) ≡ k
quot_back (pos a) = ap pos (omega arith)
quot_back (negsuc a) =
    let e : suc a * 1_000_000 / 1_000_000 ≡ suc a = omega arith in
    quot_signed true (suc a * 1_000_000) 1_000_000 ∙ rw e

pub no_rest : (k : ℤ) → nat_abs (k *ℤ pos 1_000_000) % 1_000_000 ≡ 0
no_rest (pos a) = omega arith
no_rest (negsuc a) = omega (arith, abs_neg (suc a * 1_000_000))

pub multiple : (z : ℤ) → nat_abs z % 1_000_000 ≡ 0 → z ≡ quot_z z (pos 1_000_000) *ℤ pos 1_000_000
multiple (pos a) e = ap pos (omega arith)
multiple (negsuc a) e =
    let q : ℤ = neg_ℤ (pos (suc a / 1_000_000)) in
    eq_of (negsuc a) (q *ℤ pos 1_000_000) (omega (arith, mul_p q 1_000_000, mul_n q 1_000_000, P-neg (pos (suc a / 1_000_000)), N-neg (pos (suc a / 1_000_000))))

module _ (m d k : ℤ) where
  all_fit : in_signed 31 (m *ℤ pos 30) ≡ true → in_signed 31 (m *ℤ pos 30 +ℤ d) ≡ true → in_signed 31 k ≡ true → to_day_time (counts m d (k *ℤ pos 1_000_000)) ≡ Some (day_time_of (m *ℤ pos 30 +ℤ d) k)
  unfolding to_day_time day_time_fits
  all_fit p q r = rw (p, q, eq-eqb (nat_abs (k *ℤ pos 1_000_000) % 1_000_000) 0 (no_rest k), quot_back k, r)

is_day_time : {c : Counts} {v : DayTime} → DayTimes c v → to_day_time c ≡ Some v
is_day_time (in_days {m} {d} {k} p q r) = all_fit m d k p q r

in_day_time : (m d k : ℤ) (v : DayTime) → day_time_fits (counts m d k) ≡ true → day_time_of (m *ℤ pos 30 +ℤ d) (quot_z k (pos 1_000_000)) ≡ v → DayTimes (counts m d k) v
unfolding day_time_fits
in_day_time m d k v f e =
    let b : Bool = in_signed 31 (quot_z k (pos 1_000_000)) in
    let g = and_right (in_signed 31 (m *ℤ pos 30)) (in_signed 31 (m *ℤ pos 30 +ℤ d) && (eqb (nat_abs k % 1_000_000) 0 && b)) f in
    let h = and_right (in_signed 31 (m *ℤ pos 30 +ℤ d)) (eqb (nat_abs k % 1_000_000) 0 && b) g in
    let z : nat_abs k % 1_000_000 ≡ 0 = eqb-true (nat_abs k % 1_000_000) 0 (and_left (eqb (nat_abs k % 1_000_000) 0) b h) in
    rw (← e) (from (quot_z k (pos 1_000_000)) k (multiple k z)
    (and_left (in_signed 31 (m *ℤ pos 30)) (in_signed 31 (m *ℤ pos 30 +ℤ d) && (eqb (nat_abs k % 1_000_000) 0 && b)) f)
    (and_left (in_signed 31 (m *ℤ pos 30 +ℤ d)) (eqb (nat_abs k % 1_000_000) 0 && b) g)
    (and_right (eqb (nat_abs k % 1_000_000) 0) b h))
  where
    from : (j k : ℤ) → k ≡ j *ℤ pos 1_000_000 → in_signed 31 (m *ℤ pos 30) ≡ true → in_signed 31 (m *ℤ pos 30 +ℤ d) ≡ true → in_signed 31 j ≡ true → DayTimes (counts m d k) (day_time_of (m *ℤ pos 30 +ℤ d) j)
    from j k z p q r = rw z (in_days p q r)

to_day_time_lem : (c : Counts) (v : DayTime) → to_day_time c ≡ Some v → DayTimes c v
unfolding to_day_time
to_day_time_lem c v e =
    by_test (day_time_fits c)
    (λ f. let g : Some (day_time_of (c.months *ℤ pos 30 +ℤ c.days) (quot_z c.nanos (pos 1_000_000))) ≡ Some v = rw f at e in in_day_time c.months c.days c.nanos v f (cc))
    (λ f. absurd (none-some v (rw f at e)))

pub day_time_lem : (n : ℕ) (u : IntervalUnit) (t : List ℕ) (r : Outcome DayTime) → Narrows DayTimes n u t r ↔ (narrowed to_day_time (month_day_nano n u t) ≡ r)
day_time_lem = narrows DayTimes to_day_time (λ c v. (is_day_time, to_day_time_lem c v))

-- ---- the demand

-- a division of the text in which no unit comes twice and whose running totals fit, the last of them being e
pub record Adds (n : ℕ) (u : IntervalUnit) (t : List ℕ) (e : Counts) : Type 0 where
  pub division : List Component
  pub divides : Divides n t division
  pub once_each : Repeats u division → ⊥
  pub runs : Runs n u zeros division e

-- what is demanded of a text t, for the limit n and the default unit u; its answer is `month_day_nano n u t`, which the readers' contracts name
pub record Demand3 (n : ℕ) (u : IntervalUnit) (t : List ℕ) : Type 0 where
  -- at most one division
  pub one_division : (d e : List Component) → Divides n t d → Divides n t e → d ≡ e
  -- accepted exactly when there is a division, no unit comes twice, and each contribution and each running total fits
  pub acceptance : (e : Counts) → (month_day_nano n u t ≡ accepted e) ↔ Adds n u t e
  -- the answer is the last totals of any division that the text has
  pub last_totals : (d : List Component) (e : Counts) → month_day_nano n u t ≡ accepted e → Divides n t d → Runs n u zeros d e
  -- otherwise refused, with the first number that holds
  pub first_refusal : (k : ℕ) → (month_day_nano n u t ≡ refused k) ↔ Means n u t (refused k)
  -- exactly one answer: that which is computed, and no other
  pub one_answer : (r : Outcome Counts) → Means n u t r ↔ (month_day_nano n u t ≡ r)
  -- the form of months alone
  pub in_year_months : (r : Outcome ℤ) → Narrows YearMonths n u t r ↔ (narrowed to_year_months (month_day_nano n u t) ≡ r)
  -- the form of days and milliseconds
  pub in_day_times : (r : Outcome DayTime) → Narrows DayTimes n u t r ↔ (narrowed to_day_time (month_day_nano n u t) ≡ r)

module _ (n : ℕ) (u : IntervalUnit) (t : List ℕ) where
  adds : {e : Counts} → Means n u t (accepted e) → Adds n u t e
  adds (totalled D once_each R) = record { division = _; divides = D; once_each = once_each; runs = R }

  any_last : (d : List Component) {e : Counts} → Divides n t d → Adds n u t e → Runs n u zeros d e
  any_last d D A = rw (unique D A.divides) A.runs

pub demand3 : (n : ℕ) (u : IntervalUnit) (t : List ℕ) → Demand3 n u t
demand3 n u t =
    record {
      one_division = λ d e D E. unique D E;
      acceptance = λ e. (λ h. adds n u t ((means n u t (accepted e)).1 h), λ A. computed n u t (totalled A.divides A.once_each A.runs));
      last_totals = λ d e h D. any_last n u t d D (adds n u t ((means n u t (accepted e)).1 h));
      first_refusal = λ k. ((means n u t (refused k)).1, (means n u t (refused k)).0);
      one_answer = means n u t;
      in_year_months = year_month_lem n u t;
      in_day_times = day_time_lem n u t;
    }

-- ---- the readers: an outcome that is computed is what the text means

pub meant : {n : ℕ} {u : IntervalUnit} {t : List ℕ} {r : Outcome Counts} → r ≡ month_day_nano n u t → (r ≡ month_day_nano n u t) × Means n u t r
meant {n} {u} {t} {r} e = (e, (means n u t r).1 (sym e))

pub year_month_meant : {n : ℕ} {t : List ℕ} {r : Outcome ℤ} → r ≡ year_month n t → (r ≡ year_month n t) × Narrows YearMonths n Year t r
unfolding year_month
year_month_meant {n} {t} {r} e = (e, (year_month_lem n Year t r).1 (sym e))

pub day_time_meant : {n : ℕ} {t : List ℕ} {r : Outcome DayTime} → r ≡ day_time n t → (r ≡ day_time n t) × Narrows DayTimes n Day t r
unfolding day_time
day_time_meant {n} {t} {r} e = (e, (day_time_lem n Day t r).1 (sym e))
