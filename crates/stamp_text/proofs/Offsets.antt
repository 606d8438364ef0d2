-- Stamps with offsets beside the same stamps in UTC, and beside what was read before there were any. Assumes nothing.
use mathlib.Core.Path.{◌≡◌, refl}
use mathlib.Core.List.{List, [], ◌∷◌, ◌++◌}
use Rattle.std.specs.Prelude.{Option, None, Some}
use Prim.Native.Nat.{ℕ}
use lib.Dec.{eqb}
use lib.IntN.{ℤ, pos, ◌-ℤ◌, ◌*ℤ◌}
use lib.ListN.{length, get_or, drop}
use Rattle.refusal.specs.Outcome.{accepted, refused}
use Rattle.text.proofs.Bools.{by_test}
use Rattle.utf8.specs.Utf8.{utf8}
use Rattle.clock.specs.Clock.{Clock, held_clock}
use Rattle.clock.specs.Grammar.{no_digits}
use Rattle.datetime.specs.Moment.{Moment, moment, instant}
use Rattle.offset.specs.declared.Offset.{Offset}
use Rattle.offset.specs.Grammar.{Ending, capital_z}
use Rattle.offset.specs.Utc.{ahead}
use Rattle.offset.proofs.Shift.{instant_less}
use Rattle.stamp_text.specs.Grammar.{Ymd, FullDate, Separator, PartialTime, Apart, date_time}
use Rattle.stamp_text.specs.Answer.{day_of, Timed, time_of, is_ending, is_separator, at_end, on_time, after_date, on_date, plain_moment, datetime, stamp_nanos}
use Rattle.stamp_text.specs.Before.{ended, datetime_before, stamp_before}
use Rattle.stamp_text.specs.Meaning.{names}
use Rattle.stamp_text.proofs.Agreement.{agrees, in_utc_itself}
use Rattle.stamp_text.proofs.Marks.{written}

-- ---- the same stamp with Z

-- the moment of the same stamp with Z, and that the instant is its own less the offset
pub record WithZ (a b : List ℕ) (s : ℕ) (o : Offset) (m : Moment) : Type 0 where
  pub local : Moment
  pub read : datetime (a ++ (s ∷ (b ++ (0x5A ∷ [])))) ≡ accepted local
  pub less : instant m ≡ instant local -ℤ ahead o *ℤ pos 60000000000

-- of a stamp that names a moment, whether its nanoseconds fit or not
pub with_z : (a b e : List ℕ) (s : ℕ) {d : Ymd} {c : Clock} {o : Offset} {m : Moment} → FullDate a d → Separator s → PartialTime b c → Ending e o → Apart b e → datetime (a ++ (s ∷ (b ++ e))) ≡ accepted m → WithZ a b s o m
unfolding no_digits
with_z a b e s {c = c} f g p q w r =
    let y = written (date_time a b e s f g p q w) r in
    let x : Moment = moment y.day (held_clock c) in
    record {
      local = x;
      read = (agrees (a ++ (s ∷ (b ++ (0x5A ∷ [])))) x).0 (names y.day (date_time a b (0x5A ∷ []) s f g p capital_z (λ z. refl)) y.date y.ok refl (in_utc_itself c y.day y.ok));
      less = instant_less y.in_utc;
    }

-- ---- before there were offsets

-- a text that was accepted is accepted with the same moment, and one that was refused with another number than 5 is refused with the same
module _ (t : List ℕ) where
  time_before : (z : ℤ) (o : Option Timed) → (on_time ended z o ≡ refused 5 → ⊥) → on_time at_end z o ≡ on_time ended z o
  time_before z None h = refl
  time_before z (Some x) h = by_test (is_ending x.tail) (λ e. rw e) (λ e. absurd (h (rw e)))

  after_before : (z : ℤ) → (after_date ended t z ≡ refused 5 → ⊥) → after_date at_end t z ≡ after_date ended t z
  after_before z h =
      by_test (eqb (length t) 10)
      (λ e. rw e)
      (λ e.
      by_test (is_separator (get_or t 10 0))
      (λ s. rw (e, s) (time_before z (time_of (drop 11 t)) (λ q. h (rw (e, s) q))))
      (λ s. rw (e, s)))

  date_before : (o : Option ℤ) → (on_date ended t o ≡ refused 5 → ⊥) → on_date at_end t o ≡ on_date ended t o
  date_before None h = refl
  date_before (Some z) h = after_before z h

  pub as_before : (datetime_before t ≡ refused 5 → ⊥) → datetime t ≡ datetime_before t
  unfolding plain_moment
  as_before h = by_test (utf8 t) (λ u. rw u (date_before (day_of t) (λ q. h (rw u q)))) (λ u. rw u)

  -- and so are its nanoseconds
  pub nanos_as_before : (stamp_before t ≡ refused 5 → ⊥) → stamp_nanos t ≡ stamp_before t
  nanos_as_before h = rw (as_before (λ e. h (rw e)))
