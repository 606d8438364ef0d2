-- The mark of a stamp's time: it is set exactly where the second that the text writes is 60, and without it the same text with 59 in place of
-- 60 names the same day and time. Assumes nothing.
use mathlib.Core.Path.{◌≡◌, refl, sym, ◌∙◌}
use mathlib.Core.Bool.{true}
use mathlib.Core.Logic.{◌↔◌}
use mathlib.Core.List.{List, [], ◌∷◌, ◌++◌, append_assoc}
use Rattle.std.specs.Prelude.{Option, None, Some}
use Prim.Native.Nat.{ℕ}
use native.Mathlib.Omega.{arith}
use lib.IntN.{ℤ, pos}
use Rattle.text.specs.Digits.{value}
use Rattle.text.proofs.Bools.{by_test}
use Rattle.calendar.specs.Calendar.{civil}
use Rattle.refusal.specs.Outcome.{accepted}
use Rattle.refusal.proofs.Outcomes.{clash}
use Rattle.clock.specs.Clock.{Clock, in_range, held_clock}
use Rattle.clock.proofs.Figures.{two_figures}
use Rattle.clock.specs.Second60.{at_59, unmarked, In59}
use Rattle.clock.proofs.Held.{held_mark, held_59, in_range_59, second_60, colons_59, put_before, put_behind}
use Rattle.datetime.specs.Moment.{Moment, moment}
use Rattle.offset.specs.declared.Offset.{Offset}
use Rattle.offset.specs.Utc.{in_range as offset_in_range, InUtc}
use Rattle.offset.specs.Answer.{less}
use Rattle.offset.proofs.Shift.{agrees as in_utc_agrees, leap_stays, without_mark}
use Rattle.stamp_text.specs.Grammar.{Ymd, Apart, PartialTime, colons, basic, Stamp, date_alone, date_time}
use Rattle.stamp_text.specs.Answer.{datetime}
use Rattle.stamp_text.specs.Meaning.{names}
use Rattle.stamp_text.proofs.LongestTimes.{Ok, six_bytes, eight_bytes}
use Rattle.stamp_text.proofs.Agreement.{if_dated, stamp_read, complete, agrees}

-- an accepted stamp names a day of its date, the time that it writes and its offset, in range, and the moment of these in UTC
pub record Written (d : Ymd) (c : Clock) (o : Offset) (m : Moment) : Type 0 where
  pub day : ℤ
  pub date : civil (pos d.year) d.month d.day ≡ Some day
  pub ok : Ok c
  pub offset_ok : offset_in_range o ≡ true
  pub in_utc : InUtc (moment day (held_clock c)) o m

pub written : {t : List ℕ} {d : Ymd} {c : Clock} {o : Offset} {m : Moment} → Stamp t d c o → datetime t ≡ accepted m → Written d c o m
written {t} {d} {c} {o} {m} s e = by (civil (pos d.year) d.month d.day) refl (sym (stamp_read s) ∙ complete ((agrees t m).1 e))
  where
    by : (k : Option ℤ) → civil (pos d.year) d.month d.day ≡ k → if_dated c o k ≡ accepted m → Written d c o m
    by None w q = clash q
    by (Some z) w q =
        by_test (in_range c.hour c.minute c.second)
        (λ ok.
        by_test (offset_in_range o)
        (λ r.
        let x : Moment = moment z (held_clock c) in
        let n : accepted (less x o) ≡ accepted m = rw (ok, r) at q in
        let v : less x o ≡ m = cc in
        record { day = z; date = w; ok = ok; offset_ok = r; in_utc = (in_utc_agrees x o m r).1 v })
        (λ no. clash (rw (ok, no) at q)))
        (λ no. clash (rw no at q))

-- the mark is set exactly where the written second is 60
pub mark : {t : List ℕ} {d : Ymd} {c : Clock} {o : Offset} {m : Moment} → Stamp t d c o → datetime t ≡ accepted m → (m.time.leap ≡ true) ↔ (c.second ≡ 60)
mark {c = c} s e = rw (leap_stays (written s e).in_utc) (held_mark {t = held_clock c} c refl)

-- a stamp that writes the same but for second 59 names the same moment, without the mark
pub same_moment : {t u : List ℕ} {d : Ymd} {c : Clock} {o : Offset} {m : Moment} → Stamp t d c o → c.second ≡ 60 → Stamp u d (at_59 c) o → datetime t ≡ accepted m → datetime u ≡ accepted (moment m.day (unmarked m.time))
same_moment {u = u} {c = c} {o = o} {m = m} s e r p =
    let w = written s p in
    let n : Moment = moment m.day (unmarked m.time) in
    let k : InUtc (moment w.day (held_clock (at_59 c))) o n = rw (held_59 c e) (without_mark w.in_utc) in
    (agrees u n).0 (names w.day r w.date (in_range_59 c w.ok) w.offset_ok k)

-- ---- and the same text with 59 in place of 60 is such a stamp

record Time59 (b : List ℕ) (c : Clock) : Type 0 where
  bytes : List ℕ
  same : In59 b bytes
  time : PartialTime bytes (at_59 c)
  apart : (e : List ℕ) → Apart b e → Apart bytes e

time_59 : {b : List ℕ} {c : Clock} → PartialTime b c → c.second ≡ 60 → Time59 b c
unfolding value
time_59 (colons h m s x f p q u v) e = record {
  bytes = h ++ (0x3A ∷ (m ++ (0x3A ∷ 0x35 ∷ 0x39 ∷ x)));
  same = colons_59 h m x (second_60 u e);
  time = colons h m (0x35 ∷ 0x39 ∷ []) x f p q (two_figures 0x35 0x39 refl refl) v;
  apart = (λ e w z. absurd (eight_bytes p q (two_figures 0x35 0x39 refl refl) x z));
}
time_59 (basic h m s p q u) e = record {
  bytes = h ++ (m ++ (0x35 ∷ 0x39 ∷ []));
  same = record { before = h ++ m; behind = []; sixty = rw (second_60 u e) (simp append_assoc); fifty_nine = simp append_assoc };
  time = basic h m (0x35 ∷ 0x39 ∷ []) p q (two_figures 0x35 0x39 refl refl);
  apart = (λ e w z. w (six_bytes p q u));
}

pub record Beside (t : List ℕ) (d : Ymd) (c : Clock) (o : Offset) : Type 0 where
  pub text : List ℕ
  pub same : In59 t text
  pub stamp : Stamp text d (at_59 c) o

pub with_59 : {t : List ℕ} {d : Ymd} {c : Clock} {o : Offset} → Stamp t d c o → c.second ≡ 60 → Beside t d c o
with_59 (date_alone f) e = absurd (omega (arith, e))
with_59 (date_time a b n s f g p q w) e =
    let y = time_59 p e in
    record {
      text = a ++ (s ∷ (y.bytes ++ n));
      same = put_before a (put_before (s ∷ []) (put_behind n y.same));
      stamp = date_time a y.bytes n s f g y.time q (y.apart n w);
    }
