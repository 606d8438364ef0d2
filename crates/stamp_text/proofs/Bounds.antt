-- How large a day and a time of a stamp are. Assumes nothing.
use mathlib.Core.Path.{◌≡◌}
use mathlib.Core.List.{List}
use Rattle.std.specs.Prelude.{Some}
use Prim.Native.Nat.{ℕ, ◌<◌}
use native.Mathlib.Omega.{arith}
use lib.IntN.{ℤ, pos}
use Rattle.calendar.proofs.Bounds.{Within, civil_most}
use Rattle.text.specs.Digits.{value}
use Rattle.clock.specs.Clock.{Clock, nanos_of, held_clock, Proper}
use Rattle.clock.proofs.Bounds.{figures_most, secfrac_most}
use Rattle.clock.proofs.Held.{held_proper}
use Rattle.stamp_text.specs.Grammar.{Ymd, FullDate, full_date, PartialTime, colons, basic, Stamp, date_alone, date_time}
use Rattle.datetime.specs.Moment.{Moment, moment}
use Rattle.offset.specs.declared.Offset.{Offset}
use Rattle.offset.proofs.Shift.{day_most, still_proper}
use Rattle.stamp_text.specs.Answer.{day_of}
use Rattle.stamp_text.specs.Meaning.{Names, names}
use Rattle.stamp_text.proofs.Agreement.{hour_minute, date_at}

time_most : {b : List ℕ} {c : Clock} → PartialTime b c → nanos_of c.fraction < 1000000000
unfolding nanos_of value
time_most (colons h m s x f p q r v) = secfrac_most v
time_most (basic h m s p q r) = omega arith

-- a date of the calendar lies within 4,400,000 days of 1970
year_most : {t : List ℕ} {d : Ymd} → FullDate t d → d.year < 10000
year_most (full_date y m d p q r) = figures_most p

pub day_within : (t : List ℕ) (z : ℤ) → day_of t ≡ Some z → Within 4400000 z
day_within t z e =
    let x = date_at t z e in
    let w = civil_most (pos x.date.year) x.date.month x.date.day z x.named in
    let y = year_most x.full in
    (omega (arith, w), omega (arith, w))

stamp_most : {t : List ℕ} {d : Ymd} {c : Clock} {o : Offset} → Stamp t d c o → (d.year < 10000) × (nanos_of c.fraction < 1000000000)
unfolding nanos_of value
stamp_most (date_alone f) = (year_most f, omega arith)
stamp_most (date_time a b e s f g u v w) = (year_most f, time_most u)

-- the day of a stamp lies within 4,400,000 days of 1970, and its time keeps the record's rule
pub moment_most : {t : List ℕ} {m : Moment} → Names t m → Within 4400000 m.day × Proper m.time
moment_most {m = m} (names {d = d} {c = c} {o = o} z s e ok r u) =
    let b = stamp_most s in
    let w = civil_most (pos d.year) d.month d.day z e in
    let h = hour_minute c ok in
    let k = day_most {x = moment z (held_clock c)} h.0 h.1 r u in
    ((omega (arith, w, b.0, k), omega (arith, w, b.0, k)), still_proper u (held_proper c b.1))
