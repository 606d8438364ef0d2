-- Local time less an offset: the relation has one moment in UTC, which is the computation's, and its instant is the local one's less the
-- offset. Assumes nothing.
use mathlib.Core.Path.{◌≡◌, refl, ap, subst}
use mathlib.Core.Bool.{Bool, true, false, cond}
use mathlib.Core.Logic.{◌↔◌}
use Prim.Native.Nat.{ℕ, ◌+◌, ◌-◌, ◌*◌, ◌/◌, ◌%◌, ◌≤◌, ◌<◌}
use native.Mathlib.Omega.{arith}
use lib.Dec.{leb}
use lib.IntN.{ℤ, pos, ◌+ℤ◌, ◌-ℤ◌, ◌*ℤ◌}
use borrow.Author.Tests.{leb-true}
use Rattle.number.specs.Widths.{signed}
use Rattle.number.proofs.Zed.{P, N, add_pn, P-neg, N-neg, sub-ℤ, mul_p, mul_n, eq_of}
use Rattle.text.proofs.Bools.{and_left, and_right}
use Rattle.clock.specs.Clock.{Proper, nanos_of_day}
use Rattle.clock.specs.Second60.{unmarked}
use Rattle.datetime.specs.Moment.{Moment, moment, instant}
use Rattle.offset.specs.declared.Offset.{Offset}
use Rattle.offset.specs.Grammar.{utc}
use Rattle.offset.specs.Utc.{in_range, ahead, minutes, InUtc, in_utc}
use Rattle.offset.specs.Answer.{minutes_from, less}

-- ---- minutes as natural numbers

minutes_pn : (z : ℤ) (h m : ℕ) → P (minutes z h m) + N z * 1440 ≡ N (minutes z h m) + (P z * 1440 + (h * 60 + m))
minutes_pn z h m = omega (arith, add_pn (z *ℤ pos 1440) (pos (h * 60 + m)), mul_p z 1440, mul_n z 1440)

-- less than a day
range_most : (o : Offset) → in_range o ≡ true → o.hour * 60 + o.minute < 1440
range_most o r =
    omega (arith, leb-true o.hour 23 (and_left (leb o.hour 23) (leb o.minute 59) r), leb-true o.minute 59 (and_right (leb o.hour 23) (leb o.minute 59) r))

signed_most : (s : Bool) (k : ℕ) → k < 1440 → (P (signed s k) < 1440) × (N (signed s k) < 1440)
signed_most true k h = (omega (arith, P-neg (pos k)), omega (arith, N-neg (pos k)))
signed_most false k h = (h, omega arith)

-- from the midnight before, minutes less the offset
from_pn : (s : Bool) (l k : ℕ) → k < 1440 → cond s (1440 + l + k) (1440 + l - k) + P (signed s k) ≡ 1440 + l + N (signed s k)
from_pn true l k h = omega (arith, P-neg (pos k), N-neg (pos k))
from_pn false l k h = omega arith

module _ (x : Moment) (o : Offset) (r : in_range o ≡ true) where
  abbrev n : ℕ
  n = minutes_from x.time o

  from_is : n + P (ahead o) ≡ 1440 + (x.time.hour * 60 + x.time.minute) + N (ahead o)
  from_is = from_pn o.minus (x.time.hour * 60 + x.time.minute) (o.hour * 60 + o.minute) (range_most o r)

  -- the computed moment is one of the relation
  pub is_utc : InUtc x o (less x o)
  is_utc = in_utc (x.day +ℤ (pos (n / 1440) -ℤ pos 1)) (n % 1440 / 60) (n % 1440 % 60) (omega arith) (omega arith) (eq_of _ _ (omega (
    arith,
    minutes_pn (x.day +ℤ (pos (n / 1440) -ℤ pos 1)) (n % 1440 / 60) (n % 1440 % 60),
    minutes_pn x.day x.time.hour x.time.minute,
    add_pn x.day (pos (n / 1440) -ℤ pos 1),
    sub-ℤ (pos (n / 1440)) (pos 1),
    sub-ℤ (minutes x.day x.time.hour x.time.minute) (ahead o),
    from_is,
  )))

  -- and the only one
  only : {u : Moment} → InUtc x o u → less x o ≡ u
  only (in_utc z h m a b e) =
      let p = ap P e in
      let q = ap N e in
      let d : x.day +ℤ (pos (n / 1440) -ℤ pos 1) ≡ z = eq_of _ _ (omega (
        arith,
        p,
        q,
        minutes_pn z h m,
        minutes_pn x.day x.time.hour x.time.minute,
        add_pn x.day (pos (n / 1440) -ℤ pos 1),
        sub-ℤ (pos (n / 1440)) (pos 1),
        sub-ℤ (minutes x.day x.time.hour x.time.minute) (ahead o),
        from_is,
      )) in
      let k : n % 1440 ≡ h * 60 + m = omega (
        arith,
        p,
        q,
        minutes_pn z h m,
        minutes_pn x.day x.time.hour x.time.minute,
        sub-ℤ (minutes x.day x.time.hour x.time.minute) (ahead o),
        from_is,
      ) in
      let i : n % 1440 / 60 ≡ h = omega arith in
      let j : n % 1440 % 60 ≡ m = omega arith in
      rw (d, i, j)

-- a local moment and an offset in range have one moment in UTC
pub agrees : (x : Moment) (o : Offset) (u : Moment) → in_range o ≡ true → InUtc x o u ↔ (less x o ≡ u)
agrees x o u r = (only x o r, λ e. subst (InUtc x o) e (is_utc x o r))

-- in UTC it is the moment itself
pub itself : (x : Moment) → x.time.hour < 24 → x.time.minute < 60 → InUtc x utc x
itself x h m = in_utc x.day x.time.hour x.time.minute h m (eq_of _ _ (omega (arith, sub-ℤ (minutes x.day x.time.hour x.time.minute) (pos 0))))

-- ---- what stays, and how far it goes

-- the mark
pub leap_stays : {x u : Moment} {o : Offset} → InUtc x o u → u.time.leap ≡ x.time.leap
leap_stays (in_utc z h m a b e) = refl

-- without the mark it is the same moment, without the mark
pub without_mark : {x u : Moment} {o : Offset} → InUtc x o u → InUtc (moment x.day (unmarked x.time)) o (moment u.day (unmarked u.time))
without_mark (in_utc z h m a b e) = in_utc z h m a b e

-- the day lies at most one from the local one
pub day_most : {x u : Moment} {o : Offset} → x.time.hour < 24 → x.time.minute < 60 → in_range o ≡ true → InUtc x o u → (P u.day + N x.day ≤ N u.day + P x.day + 1) × (N u.day + P x.day ≤ P u.day + N x.day + 1)
day_most {x} {u} {o} c d r (in_utc z h m a b e) =
    let k = signed_most o.minus (o.hour * 60 + o.minute) (range_most o r) in
    let w = sub-ℤ (minutes x.day x.time.hour x.time.minute) (ahead o) in
    let p = minutes_pn z h m in
    let q = minutes_pn x.day x.time.hour x.time.minute in
    (omega (arith, ap P e, ap N e, k, w, p, q), omega (arith, ap P e, ap N e, k, w, p, q))

-- and its time keeps the record's rule
pub still_proper : {x u : Moment} {o : Offset} → InUtc x o u → Proper x.time → Proper u.time
still_proper (in_utc z h m a b e) p = p

-- ---- instants

instant_pn : (x : Moment) → P (instant x) + N x.day * 86400000000000 ≡ N (instant x) + (P x.day * 86400000000000 + nanos_of_day x.time)
instant_pn x = omega (arith, add_pn (x.day *ℤ pos 86400000000000) (pos (nanos_of_day x.time)), mul_p x.day 86400000000000, mul_n x.day 86400000000000)

-- its instant is the local one less the offset, 60,000,000,000 nanoseconds a minute
pub instant_less : {x u : Moment} {o : Offset} → InUtc x o u → instant u ≡ instant x -ℤ ahead o *ℤ pos 60000000000
instant_less {x} {u} {o} (in_utc z h m a b e) = eq_of _ _ (omega (
  arith,
  ap P e,
  ap N e,
  minutes_pn z h m,
  minutes_pn x.day x.time.hour x.time.minute,
  sub-ℤ (minutes x.day x.time.hour x.time.minute) (ahead o),
  instant_pn x,
  instant_pn u,
  sub-ℤ (instant x) (ahead o *ℤ pos 60000000000),
  mul_p (ahead o) 60000000000,
  mul_n (ahead o) 60000000000,
))
