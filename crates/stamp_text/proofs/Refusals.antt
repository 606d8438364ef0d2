-- Why a stamp is refused: `Meaning.Refuses` has for each text the number that the computation gives, and no other. Assumes nothing.
use mathlib.Core.Path.{◌≡◌, refl, sym, ap, ◌∙◌, subst}
use mathlib.Core.Bool.{true, false, false≢true}
use mathlib.Core.Logic.{◌↔◌}
use mathlib.Core.List.{List, ◌∷◌, ◌++◌}
use Rattle.std.specs.Prelude.{Option, None, Some}
use Prim.Native.Nat.{ℕ, ◌<◌}
use native.Mathlib.Omega.{arith}
use lib.Dec.{eqb}
use lib.ListN.{length, get_or, drop, length-append}
use lib.Seq.{drop-cons}
use lib.IntN.{ℤ}
use borrow.Author.Tests.{ne_eqb, eqb-false}
use Rattle.number.specs.Widths.{in_signed}
use Rattle.refusal.specs.Outcome.{Outcome, accepted, refused, and_then}
use Rattle.utf8.specs.Utf8.{Utf8, utf8}
use Rattle.text.proofs.Bools.{by_test, fails, holds_not}
use Rattle.utf8.proofs.Utf8Agrees as utf
use Rattle.refusal.proofs.Outcomes.{clash, same}
use Rattle.text.proofs.Logic.{none_some}
use Rattle.clock.specs.Clock.{Clock}
use Rattle.offset.specs.declared.Offset.{Offset}
use Rattle.offset.specs.Grammar.{utc, Ending, none_given, capital_z, small_z, in_figures}
use Rattle.offset.specs.Utc.{in_range as offset_in_range}
use Rattle.offset.specs.Answer.{offset_of}
use Rattle.offset.proofs.Agreement as offsets
use Rattle.stamp_text.specs.Answer.{day_of, Timed, time_of, is_ending, is_separator, on_offset, at_end, on_time, after_date, on_date, plain_moment, datetime, in_nanos, stamp_nanos}
use Rattle.datetime.specs.Moment.{Moment, moment, instant}
use Rattle.stamp_text.specs.Meaning.{Dated, dated, LongestTime, Refuses, not_utf8, no_date, no_separator, no_time, more_after, no_offset, out_of_range}
use Rattle.stamp_text.proofs.LongestTimes.{time_read, time_sound, of_grammar}
use Rattle.stamp_text.proofs.Agreement.{agrees, seam, date_size, day_read, DateIs, date_at, is_separator_lem, separator_sound, ending_sound, at_end_lem}

is_utf8 : {t : List ℕ} → Utf8 t → utf8 t ≡ true
is_utf8 {t} u = (utf.agrees t).0 u

-- ---- a refusal of the relation is the computation's

day_of_lem : {a : List ℕ} {z : ℤ} (r : List ℕ) → Dated a z → day_of (a ++ r) ≡ Some z
day_of_lem r (dated z f e) = day_read f r z e

-- a date, and a byte behind it
module _ {a : List ℕ} (r : List ℕ) (b : ℕ) {z : ℤ} where
  long : Dated a z → length (a ++ (b ∷ r)) ≡ 10 → ⊥
  long (dated z f e) h = omega (arith, length-append a (b ∷ r), date_size f)

  behind : Dated a z → plain_moment (a ++ (b ∷ r)) ≡ after_date at_end (a ++ (b ∷ r)) z
  unfolding plain_moment
  behind d = rw (day_of_lem (b ∷ r) d)

  byte_10 : Dated a z → (get_or (a ++ (b ∷ r)) 10 0 ≡ b) × (drop 11 (a ++ (b ∷ r)) ≡ r)
  byte_10 (dated z f e) = seam f b r

  -- what the byte behind the date leads to
  third : Utf8 (a ++ (b ∷ r)) → Dated a z → is_separator b ≡ false → datetime (a ++ (b ∷ r)) ≡ refused 3
  third u d s = let y = byte_10 d in rw (is_utf8 u, behind d, ne_eqb (length (a ++ (b ∷ r))) 10 (long d), y.0, s)

  on_time_lem : Utf8 (a ++ (b ∷ r)) → Dated a z → is_separator b ≡ true → datetime (a ++ (b ∷ r)) ≡ on_time at_end z (time_of r)
  on_time_lem u d s = let y = byte_10 d in rw (is_utf8 u, behind d, ne_eqb (length (a ++ (b ∷ r))) 10 (long d), y.0, y.1, s)

no_day : (t : List ℕ) → ((a r : List ℕ) (z : ℤ) → t ≡ a ++ r → Dated a z → ⊥) → plain_moment t ≡ refused 2
unfolding plain_moment
no_day t h = by (day_of t) refl
  where
    by : (o : Option ℤ) → day_of t ≡ o → plain_moment t ≡ refused 2
    by None e = rw e
    by (Some z) e = let x = date_at t z e in absurd (h x.bytes (drop 10 t) z x.text (dated z x.full x.named))

no_longest : (r : List ℕ) → ((c : Clock) (e : List ℕ) → LongestTime r c e → ⊥) → time_of r ≡ None
no_longest r h = by (time_of r) refl
  where
    by : (o : Option Timed) → time_of r ≡ o → time_of r ≡ None
    by None e = e
    by (Some x) e = let k = time_sound r x e in absurd (h k.fields x.tail k.time)

-- bytes that are no ending are no offset, and the other way round
not_an_offset : (e : List ℕ) → ((o : Offset) → Ending e o → ⊥) → offset_of e ≡ None
not_an_offset e h = by (offset_of e) refl
  where
    by : (o : Option Offset) → offset_of e ≡ o → offset_of e ≡ None
    by None p = p
    by (Some o) p = absurd (h o (in_figures (offsets.sound e o p)))

no_ending : {e : List ℕ} {o : Offset} → is_ending e ≡ false → offset_of e ≡ None → Ending e o → ⊥
no_ending p q none_given = false≢true (sym p)
no_ending p q capital_z = false≢true (sym p)
no_ending p q small_z = false≢true (sym p)
no_ending p q (in_figures n) = none_some (sym q ∙ offsets.read n)

into : {t : List ℕ} {n : ℕ} → Refuses t n → stamp_nanos t ≡ refused n
into (not_utf8 {t} h) = rw (fails (utf8 t) (utf.agrees t).1 h)
into (no_date {t} u h) = rw (is_utf8 u, no_day t h)
into (no_separator a r b z u d s) = rw (third r b u d (fails (is_separator b) (separator_sound b) s))
into (no_time a r s z u d p h) = rw (on_time_lem r s u d (is_separator_lem p), no_longest r h)
into (more_after a r e s z c u d p l n) =
    rw (on_time_lem r s u d (is_separator_lem p), time_read l, fails (is_ending e) (ending_sound e) (n utc), not_an_offset e n)
into (no_offset a r e s z c o u d p l n f) =
    rw (on_time_lem r s u d (is_separator_lem p), time_read l, at_end_lem n c z (of_grammar l).ok, f)
into (out_of_range {t} m n f) = rw ((agrees t m).0 n, f)

-- ---- a refusal of the computation is the relation's

-- a date, and what follows it
module _ (t : List ℕ) (u : utf8 t ≡ true) (z : ℤ) (x : DateIs t z) where
  its_date : Dated x.bytes z
  its_date = dated z x.full x.named

  text_is : (length t ≡ 10 → ⊥) → t ≡ x.bytes ++ (get_or t 10 0 ∷ drop 11 t)
  text_is h =
      let l : 10 < length t = omega (arith, ap length x.text, length-append x.bytes (drop 10 t), x.size) in
      x.text ∙ ap (λ (r : List ℕ). x.bytes ++ r) (drop-cons t 10 0 l)

  utf8_is : (length t ≡ 10 → ⊥) → Utf8 (x.bytes ++ (get_or t 10 0 ∷ drop 11 t))
  utf8_is h = subst Utf8 (text_is h) ((utf.agrees t).1 u)

  back_at : (length t ≡ 10 → ⊥) → {n : ℕ} → Refuses (x.bytes ++ (get_or t 10 0 ∷ drop 11 t)) n → Refuses t n
  back_at h {n} = subst (λ (v : List ℕ). Refuses v n) (sym (text_is h))

  -- bytes behind the time that are neither nothing nor a Z
  offset_at : (length t ≡ 10 → ⊥) → is_separator (get_or t 10 0) ≡ true → (y : Timed) → time_of (drop 11 t) ≡ Some y → is_ending y.tail ≡ false → (o : Option Offset) → offset_of y.tail ≡ o → (n : ℕ) → on_offset (moment z y.time) o ≡ refused n → Refuses t n
  offset_at h s y p q None f n e =
      let k = time_sound (drop 11 t) y p in
      rw (← same e) (back_at h (more_after x.bytes (drop 11 t) y.tail (get_or t 10 0) z k.fields (utf8_is h) its_date (separator_sound (get_or t 10 0) s) k.time (λ o. no_ending q f)))
  offset_at h s y p q (Some o) f n e =
      by_test (offset_in_range o)
      (λ r. clash (sym (rw r at e)))
      (λ r.
      let k = time_sound (drop 11 t) y p in
      let w : refused 15 ≡ refused n = rw r at e in
      rw (← same w) (back_at h (no_offset x.bytes (drop 11 t) y.tail (get_or t 10 0) z k.fields o (utf8_is h) its_date (separator_sound (get_or t 10 0) s) k.time (in_figures (offsets.sound y.tail o f)) r)))

  timed : (length t ≡ 10 → ⊥) → is_separator (get_or t 10 0) ≡ true → (o : Option Timed) → time_of (drop 11 t) ≡ o → (n : ℕ) → on_time at_end z o ≡ refused n → Refuses t n
  timed h s None p n e = rw (← same e) (back_at h (no_time x.bytes (drop 11 t) (get_or t 10 0) z (utf8_is h) its_date (separator_sound (get_or t 10 0) s) (λ c e l. none_some (sym p ∙ time_read l))))
  timed h s (Some y) p n e =
      by_test (is_ending y.tail)
      (λ q. clash (sym (rw q at e)))
      (λ q. offset_at h s y p q (offset_of y.tail) refl n (rw q at e))

  after : (n : ℕ) → after_date at_end t z ≡ refused n → Refuses t n
  after n e =
      by_test (eqb (length t) 10)
      (λ h. clash (sym (rw h at e)))
      (λ h.
      let k = eqb-false (length t) 10 h in
      by_test (is_separator (get_or t 10 0))
      (λ s. timed k s (time_of (drop 11 t)) refl n (rw (h, s) at e))
      (λ s. let w : refused 3 ≡ refused n = rw (h, s) at e in
      rw (← same w) (back_at k (no_separator x.bytes (drop 11 t) (get_or t 10 0) z (utf8_is k) its_date (holds_not s is_separator_lem)))))

early : (t : List ℕ) → utf8 t ≡ true → (n : ℕ) → plain_moment t ≡ refused n → Refuses t n
unfolding plain_moment
early t u n = by (day_of t) refl
  where
    by : (o : Option ℤ) → day_of t ≡ o → on_date at_end t o ≡ refused n → Refuses t n
    by None p e = rw (← same e) (no_date ((utf.agrees t).1 u) (λ a r z q d. none_some (sym p ∙ ap day_of q ∙ day_of_lem r d)))
    by (Some z) p e = after t u z (date_at t z p) n e

-- ---- the theorem

pub refusals : (t : List ℕ) (n : ℕ) → Refuses t n ↔ (stamp_nanos t ≡ refused n)
refusals t n = (into, λ e. by_test (utf8 t) (λ u. back (plain_moment t) refl u (rw u at e)) (λ u. first u (rw u at e)))
  where
    first : utf8 t ≡ false → ◌≡◌ {A = Outcome ℤ} (refused 1) (refused n) → Refuses t n
    first u e = rw (← same e) (not_utf8 (holds_not u (utf.agrees t).0))

    back : (o : Outcome Moment) → plain_moment t ≡ o → utf8 t ≡ true → and_then o (λ m. in_nanos (instant m)) ≡ refused n → Refuses t n
    back (refused k) p u e = rw (← same e) (early t u k p)
    back (accepted m) p u e =
        by_test (in_signed 63 (instant m))
        (λ f. clash (sym (rw f at e)))
        (λ f. let w : refused 6 ≡ refused n = rw f at e in rw (← same w) (out_of_range m ((agrees t m).1 (rw u p)) f))
