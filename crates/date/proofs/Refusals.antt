-- Why a date is refused: `Grammar.Refuses` has for each text the number that the computation gives, and no other. Assumes nothing.
use mathlib.Core.Path.{◌≡◌, refl, sym, ◌∙◌}
use mathlib.Core.Bool.{true, false, false≢true}
use mathlib.Core.Logic.{◌↔◌, ⊎_elim}
use mathlib.Core.List.{List, [], ◌∷◌}
use Rattle.std.specs.Prelude.{Option, None, Some}
use Prim.Native.Nat.{ℕ, ◌≤◌, ◌<◌}
use native.Mathlib.Omega.{arith}
use lib.Dec.{eqb, leb}
use lib.ListN.{length, get_or}
use lib.IntN.{ℤ}
use borrow.Author.Tests.{eqb-true, leb-true, leb-false, le-leb, lt-leb}
use Rattle.number.specs.Widths.{in_signed}
use Rattle.refusal.specs.Outcome.{Outcome, accepted, refused, in_utf8, and_then}
use Rattle.utf8.specs.Utf8.{utf8}
use Rattle.text.proofs.Bools.{or_cases, by_test, fails, holds_not}
use Rattle.utf8.proofs.Utf8Agrees as utf
use Rattle.refusal.proofs.Outcomes.{clash, same}
use Rattle.stamp_text.specs.Answer.{in_nanos, datetime, stamp_nanos}
use Rattle.datetime.specs.Moment.{Moment, instant}
use Rattle.stamp_text.specs.Meaning.{Refuses as StampRefuses, not_utf8 as st_not_utf8, no_date as st_no_date, no_separator, no_time, more_after, no_offset, out_of_range as st_out_of_range}
use Rattle.stamp_text.proofs.Agreement as Stamps
use Rattle.stamp_text.proofs.Refusals.{refusals as stamp_refusals}
use Rattle.date.specs.Grammar.{plus, minus, NamesDay, DateForm, with_sign, within_ten, Refuses, not_utf8, no_date, as_stamp, out_of_range}
use Rattle.date.specs.Answer.{is_sign, signed_day, on_day, plain_day, day_named, in_days, date_days}
use Rattle.ymd.specs.Forms.{short_day}
use Rattle.date.proofs.Agreement.{agrees}

-- ---- the three forms

-- the day of a moment
abbrev its_day : Outcome Moment → Outcome ℤ
its_day o = and_then o (λ x. accepted x.day)

module _ (s : List ℕ) where
  signed_form : is_sign (get_or s 0 0) ≡ true → on_day (signed_day s) ≡ plain_day s
  unfolding plain_day
  signed_form e = rw e

  short_form : is_sign (get_or s 0 0) ≡ false → length s ≤ 10 → on_day (short_day s) ≡ plain_day s
  unfolding plain_day
  short_form e l = rw (e, le-leb (length s) 10 l)

  stamp_form : is_sign (get_or s 0 0) ≡ false → 10 < length s → its_day (datetime s) ≡ day_named s
  unfolding plain_day
  stamp_form e l = rw (e, lt-leb (length s) 10 l) (by_test (utf8 s) (λ u. rw u) (λ u. rw u))

-- ---- texts that are read as dates

sign_form : (t : List ℕ) → is_sign (get_or t 0 0) ≡ true → DateForm t
sign_form [] e = absurd (false≢true e)
sign_form (b ∷ t) e =
    with_sign b t (⊎_elim (λ q. rw (eqb-true b 0x2B q) plus) (λ q. rw (eqb-true b 0x2D q) minus) (or_cases (eqb b 0x2B) (eqb b 0x2D) e))

is_form : {t : List ℕ} → DateForm t → is_sign (get_or t 0 0) ≡ false → length t ≤ 10
is_form (with_sign s t plus) e = absurd (false≢true (sym e))
is_form (with_sign s t minus) e = absurd (false≢true (sym e))
is_form (within_ten h) e = h

in_utf8_lem : (t : List ℕ) (o : Outcome ℤ) → utf8 t ≡ true → o ≡ in_utf8 t o
in_utf8_lem t o u = rw u

-- the day that a date names is none where the text names no day
on_date : (t : List ℕ) (o : Option ℤ) → on_day o ≡ day_named t → ((z : ℤ) → NamesDay t z → ⊥) → day_named t ≡ refused 2
on_date t None e h = sym e
on_date t (Some z) e h = absurd (h z ((agrees t z).1 (sym e)))

dates : (t : List ℕ) → utf8 t ≡ true → DateForm t → ((z : ℤ) → NamesDay t z → ⊥) → day_named t ≡ refused 2
dates t u f h =
    by_test (is_sign (get_or t 0 0))
    (λ g. on_date t (signed_day t) (signed_form t g ∙ in_utf8_lem t (plain_day t) u) h)
    (λ g. on_date t (short_day t) (short_form t g (is_form f g) ∙ in_utf8_lem t (plain_day t) u) h)

-- ---- texts that are read as stamps

not_date : (t : List ℕ) → (DateForm t → ⊥) → (is_sign (get_or t 0 0) ≡ false) × (10 < length t)
not_date t f =
    (fails (is_sign (get_or t 0 0)) (sign_form t) f, leb-false (length t) 10 (fails (leb (length t) 10) (λ e. within_ten (leb-true (length t) 10 e)) f))

pub stamps : (t : List ℕ) (n : ℕ) → stamp_nanos t ≡ refused n → (n ≡ 6 → ⊥) → datetime t ≡ refused n
stamps t n e l = by (datetime t) refl e
  where
    by : (o : Outcome Moment) → datetime t ≡ o → and_then o (λ m. in_nanos (instant m)) ≡ refused n → datetime t ≡ refused n
    by (refused k) p e = let q : k ≡ n = same e in rw (p, q)
    by (accepted m) p e =
        by_test (in_signed 63 (instant m))
        (λ f. clash (sym (rw f at e)))
        (λ f. let q : refused 6 ≡ refused n = rw f at e in absurd (l (sym (same q))))

-- a stamp's refusals but 6 are of texts that name no moment
pub not_6 : {t : List ℕ} {n : ℕ} → StampRefuses t n → datetime t ≡ refused n → n ≡ 6 → ⊥
not_6 (st_not_utf8 h) e q = omega arith
not_6 (st_no_date u h) e q = omega arith
not_6 (no_separator a r b z u d s) e q = omega arith
not_6 (no_time a r s z u d p l) e q = omega arith
not_6 (more_after a r x s z c u d p l n) e q = omega arith
not_6 (no_offset a r x s z c o u d p l n f) e q = omega arith
not_6 (st_out_of_range {t} m n f) e q = clash (sym e ∙ (Stamps.agrees t m).0 n)

-- ---- the theorem

into : {t : List ℕ} {n : ℕ} → Refuses t n → date_days t ≡ refused n
into (not_utf8 {t} h) = rw (fails (utf8 t) (utf.agrees t).1 h)
into (no_date {t} u f h) = rw (dates t ((utf.agrees t).0 u) f h)
into (as_stamp {t} {n} f s l) =
    let k = not_date t f in
    let e = stamps t n ((stamp_refusals t n).0 s) l in
    let q : day_named t ≡ refused n = sym (stamp_form t k.0 k.1) ∙ rw e in
    rw q
into (out_of_range {t} z n f) = rw ((agrees t z).0 n, f)

module _ (t : List ℕ) where
  -- where a date of this form is refused, it names no day
  unnamed : utf8 t ≡ true → DateForm t → (o : Option ℤ) → on_day o ≡ day_named t → (n : ℕ) → day_named t ≡ refused n → Refuses t n
  unnamed u f (Some z) e n p = clash (sym (e ∙ p))
  unnamed u f None e n p =
      let q : ◌≡◌ {A = Outcome ℤ} (refused 2) (refused n) = e ∙ p in
      rw (← same q) (no_date ((utf.agrees t).1 u) f (λ z k. clash (e ∙ (agrees t z).0 k)))

  as_a_stamp : (o : Outcome Moment) → datetime t ≡ o → (DateForm t → ⊥) → (n : ℕ) → its_day o ≡ refused n → Refuses t n
  as_a_stamp (accepted m) p f n e = clash (sym e)
  as_a_stamp (refused k) p f n e =
      let r = (stamp_refusals t k).1 (rw p) in
      rw (← same e) (as_stamp f r (not_6 r p))

  early : (n : ℕ) → day_named t ≡ refused n → Refuses t n
  early n e =
      by_test (utf8 t)
      (λ u. by_test (is_sign (get_or t 0 0))
      (λ g. unnamed u (sign_form t g) (signed_day t) (signed_form t g ∙ in_utf8_lem t (plain_day t) u) n e)
      (λ g. by_test (leb (length t) 10)
      (λ l. let h = leb-true (length t) 10 l in unnamed u (within_ten h) (short_day t) (short_form t g h ∙ in_utf8_lem t (plain_day t) u) n e)
      (λ l. let h = leb-false (length t) 10 l in
      as_a_stamp (datetime t) refl (λ f. let k = is_form f g in absurd (omega arith)) n (stamp_form t g h ∙ e))))
      (λ u. let q : ◌≡◌ {A = Outcome ℤ} (refused 1) (refused n) = rw u at e in rw (← same q) (not_utf8 (holds_not u (utf.agrees t).0)))

pub refusals : (t : List ℕ) (n : ℕ) → Refuses t n ↔ (date_days t ≡ refused n)
refusals t n = (into, back (day_named t) refl)
  where
    back : (o : Outcome ℤ) → day_named t ≡ o → and_then o in_days ≡ refused n → Refuses t n
    back (refused k) p e = rw (← same e) (early t k p)
    back (accepted z) p e =
        by_test (in_signed 31 z)
        (λ f. clash (sym (rw f at e)))
        (λ f. let q : ◌≡◌ {A = Outcome ℤ} (refused 6) (refused n) = rw f at e in rw (← same q) (out_of_range z ((agrees t z).1 p) f))
