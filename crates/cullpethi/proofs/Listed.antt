-- Each refusal that a delivered call can give is a number of the list, but for 255, which says that a number names no default unit. So a
-- status of 0 means accepted, and any other refused. Assumes nothing.
use mathlib.Core.Path.{◌≡◌, refl, sym, ◌∙◌}
use mathlib.Core.Bool.{Bool, true, false, cond}
use mathlib.Core.Logic.{◌⊎◌, inl, inr, ⊎_elim, ◌↔◌}
use mathlib.Core.List.{List}
use Rattle.std.specs.Prelude.{Option, None, Some}
use Prim.Native.Nat.{ℕ, ◌≤◌}
use native.Mathlib.Omega.{arith}
use lib.Dec.{leb, eqb, lit≤}
use lib.ListN.{length, get_or, drop}
use lib.IntN.{ℤ, pos, ◌*ℤ◌}
use lib.Signed.{quot_z}
use borrow.Author.Tests.{leb-true, eqb-true}
use Rattle.text.proofs.Bools.{or_cases}
use Rattle.column.specs.Columns.{column}
use Rattle.column.specs.declared.Column.{Column}
use Rattle.column.specs.declared.Column.TheVariants.{TimestampNanosecond, TimestampMicrosecond, TimestampMillisecond, TimestampSecond, Time64Nanosecond, Time64Microsecond, Time32Millisecond, Time32Second, Date32, Date64}
use Rattle.component.specs.Division.{divide}
use Rattle.component.specs.Grammar.{Component}
use Rattle.amount.specs.Grammar.{precision}
use Rattle.unit.specs.declared.IntervalUnit.{IntervalUnit}
use Rattle.unit.specs.declared.IntervalUnit.TheVariants.{Year, Month, Day}
use Rattle.date.specs.Answer.{is_sign, on_day, signed_day, plain_day, day_named, in_days, date_days}
use Rattle.ymd.specs.Forms.{short_day}
use Rattle.date_column.specs.Answer.{millis}
use Rattle.rule.specs.Answer.{totals, twice, on_totals, on_division, month_day_nano, to_year_months, to_day_time, or_narrowed, narrowed, year_month, day_time, plain_month_day_nano}
use Rattle.rule.specs.Contribution.{Counts, zeros}
use Rattle.number.specs.Decimal.{integer}
use Rattle.number.specs.Widths.{in_signed, floor}
use Rattle.refusal.specs.Attempts.{or_else, divided}
use Rattle.refusal.specs.Outcome.{Outcome, accepted, refused, because, and_then, in_utf8, number_of}
use Rattle.refusal.specs.declared.Refusal.{Refusal}
use Rattle.refusal.specs.declared.Refusal.TheVariants.{NotUtf8, Date, Separator, Time, Tail, Offset as OfOffset, Range, TimeOfDay, Interval, RepeatedUnit, Overflow, Narrowed, SiteStamp, Column as OfColumn, Buffer as OfBuffer, Records as OfRecords, Keypad as OfKeypad}
use Rattle.text.specs.Trim.{trimmed}
use Rattle.utf8.specs.Utf8.{utf8}
use Rattle.time.specs.Answer.{time_of_day, time_nanos}
use Rattle.time.specs.Answer as Times
use Rattle.stamp_text.specs.Answer.{day_of, Timed, time_of, is_ending, is_separator, on_offset, at_end, on_time, on_date, plain_moment, in_nanos, stamp_nanos}
use Rattle.datetime.specs.Moment.{Moment, moment, instant}
use Rattle.offset.specs.declared.Offset.{Offset}
use Rattle.offset.specs.Utc.{in_range}
use Rattle.offset.specs.Answer.{offset_of, less}
use Rattle.clock.specs.Clock.{held, nanos_of_day}
use Rattle.clock.specs.declared.NaiveTime.{NaiveTime}
use Rattle.site.specs.Site.{marked, is_site, if_site, on_moment, site_marked}
use Rattle.stamp_column.specs.Answer.{timestamp_column}
use Rattle.time_column.specs.Answer.{on_integer, time_column}
use Rattle.refusal.proofs.Outcomes.{clash, same}
use Rattle.unit.specs.Units.{unit_numbered}
use Rattle.cells.specs.Cells.{Told, cells_of, in_cells}
use Rattle.cullpethi.specs.DefaultUnit.{in_unit}
use Rattle.cullpethi.specs.Calls.{Call, string_to_timestamp_nanos, string_to_time_nanoseconds, site_stamp, parse, interval_year_month, interval_day_time, interval_month_day_nano, interval_month_day_nano_config, CellsOf, answer, Accepts, accepts, of_text, OnList, on_list}

-- an outcome whose number, where it is refused, is on the list
data Numbered {A : Type 0} : Outcome A → Type 0 where
  value : (v : A) → Numbered (accepted v)
  refusal : (why : Refusal) → of_text (number_of why) ≡ true → Numbered (because why)

number : {A : Type 0} {o : Outcome A} {n : ℕ} → Numbered o → o ≡ refused n → OnList n
number (value v) e = clash (sym e)
number (refusal why h) e = rw (← same e) (on_list why h)

of_test : {A : Type 0} (b : Bool) {o p : Outcome A} → Numbered o → Numbered p → Numbered (cond b o p)
of_test true f g = f
of_test false f g = g

well_formed : {A : Type 0} (t : List ℕ) {o : Outcome A} → Numbered o → Numbered (in_utf8 t o)
well_formed t f = of_test (utf8 t) f (refusal NotUtf8 refl)

then_numbered : {A B : Type 0} {o : Outcome A} → Numbered o → (f : A → Outcome B) → ((v : A) → Numbered (f v)) → Numbered (and_then o f)
then_numbered (value v) f q = q v
then_numbered (refusal why h) f q = refusal why h

-- ---- stamps

offset_part : (x : Moment) (o : Option Offset) → Numbered (on_offset x o)
offset_part x None = refusal Tail refl
offset_part x (Some o) = of_test (in_range o) (value (less x o)) (refusal OfOffset refl)

time_part : (z : ℤ) (o : Option Timed) → Numbered (on_time at_end z o)
time_part z None = refusal Time refl
time_part z (Some x) = of_test (is_ending x.tail) (value (moment z x.time)) (offset_part (moment z x.time) (offset_of x.tail))

date_part : (t : List ℕ) (o : Option ℤ) → Numbered (on_date at_end t o)
date_part t None = refusal Date refl
date_part t (Some z) =
    of_test (eqb (length t) 10) (value (moment z (held 0 0 0 0)))
    (of_test (is_separator (get_or t 10 0)) (time_part z (time_of (drop 11 t))) (refusal Separator refl))

a_moment : (t : List ℕ) → Numbered (plain_moment t)
unfolding plain_moment
a_moment t = date_part t (day_of t)

fitting : (z : ℤ) → Numbered (in_nanos z)
fitting z = of_test (in_signed 63 z) (value z) (refusal Range refl)

a_stamp : (t : List ℕ) → Numbered (stamp_nanos t)
a_stamp t = then_numbered (well_formed t (a_moment t)) (λ m. in_nanos (instant m)) (λ m. fitting (instant m))

a_site_stamp : (t : List ℕ) → Numbered (site_marked t)
a_site_stamp t =
    then_numbered (well_formed t (a_moment t)) (on_moment t)
    (λ m. then_numbered (fitting (instant m)) (if_site t m.time.leap) (λ z. of_test (is_site t) (value (marked z m.time.leap)) (refusal SiteStamp refl)))

its_cells : (t : List ℕ) → Numbered (in_cells (site_marked t))
its_cells t = then_numbered (a_site_stamp t) (λ x. accepted (cells_of x)) (λ x. value (cells_of x))

-- ---- times of day and dates

of_day : (o : Option NaiveTime) → Numbered (Times.on_time o)
of_day None = refusal TimeOfDay refl
of_day (Some x) = value (pos (nanos_of_day x))

a_time : (t : List ℕ) → Numbered (time_nanos t)
a_time t = well_formed t (of_day (time_of_day t))

a_day : (o : Option ℤ) → Numbered (on_day o)
a_day None = refusal Date refl
a_day (Some z) = value z

named : (t : List ℕ) → Numbered (day_named t)
unfolding plain_day
named t =
    well_formed t
    (of_test (is_sign (get_or t 0 0)) (a_day (signed_day t))
    (of_test (leb (length t) 10) (a_day (short_day t)) (then_numbered (a_moment t) (λ x. accepted x.day) (λ x. value x.day))))

a_date : (t : List ℕ) → Numbered (date_days t)
a_date t = then_numbered (named t) in_days (λ z. of_test (in_signed 31 z) (value z) (refusal Range refl))

-- ---- columns

or_else_lem : {o p : Outcome ℤ} → Numbered o → Numbered p → Numbered (or_else o p)
or_else_lem (value z) g = value z
or_else_lem (refusal why h) g = g

in_unit_lem : (k : ℕ) {o : Outcome ℤ} → Numbered o → Numbered (divided k o)
in_unit_lem k (value z) = value (quot_z z (pos k))
in_unit_lem k (refusal why h) = refusal why h

an_integer : (o : Option ℤ) → Numbered (on_integer o)
an_integer None = refusal TimeOfDay refl
an_integer (Some z) = value z

module _ (t : List ℕ) where
  stamp_column : (k : ℕ) → Numbered (timestamp_column k t)
  stamp_column k = in_unit_lem k (or_else_lem (a_stamp t) (a_stamp (trimmed t)))

  time_column_lem : (k bits : ℕ) → Numbered (time_column k bits t)
  time_column_lem k bits =
      or_else_lem (in_unit_lem k (a_time t)) (or_else_lem (an_integer (integer true bits t)) (in_unit_lem k (a_time (trimmed t))))

  a_column : (c : Column) → Numbered (column c t)
  a_column TimestampNanosecond = stamp_column 1
  a_column TimestampMicrosecond = stamp_column 1000
  a_column TimestampMillisecond = stamp_column 1000000
  a_column TimestampSecond = stamp_column 1000000000
  a_column Time64Nanosecond = time_column_lem 1 64
  a_column Time64Microsecond = time_column_lem 1000 64
  a_column Time32Millisecond = time_column_lem 1000000 32
  a_column Time32Second = time_column_lem 1000000000 32
  a_column Date32 = or_else_lem (a_date t) (a_date (trimmed t))
  a_column Date64 =
      of_test (leb (length t) 10) (then_numbered (named t) (λ z. accepted (z *ℤ pos 86400000)) (λ z. value (z *ℤ pos 86400000)))
      (then_numbered (well_formed t (a_moment t)) (λ m. millis (instant m)) (λ m. value (floor (instant m) 1000000)))

pub numbered_column : (t : List ℕ) (c : Column) (n : ℕ) → column c t ≡ refused n → OnList n
numbered_column t c n e = number (a_column t c) e

-- ---- intervals

summed : (o : Option Counts) → Numbered (on_totals o)
unfolding on_totals
summed None = refusal Overflow refl
summed (Some c) = value c

on_division_lem : (n : ℕ) (u : IntervalUnit) (o : Option (List Component)) → Numbered (on_division n u o)
unfolding on_division
on_division_lem n u None = refusal Interval refl
on_division_lem n u (Some d) = of_test (twice u d) (refusal RepeatedUnit refl) (summed (totals n u zeros d))

an_interval : (n : ℕ) (u : IntervalUnit) (t : List ℕ) → Numbered (month_day_nano n u t)
unfolding month_day_nano
an_interval n u t = of_test (utf8 t) (on_division_lem n u (divide n t)) (refusal NotUtf8 refl)

holds : {A : Type 0} (o : Option A) → Numbered (or_narrowed o)
unfolding or_narrowed
holds None = refusal Narrowed refl
holds (Some v) = value v

a_narrowed : {A : Type 0} (f : Counts → Option A) {o : Outcome Counts} → Numbered o → Numbered (narrowed f o)
unfolding narrowed
a_narrowed f (value c) = holds (f c)
a_narrowed f (refusal why h) = refusal why h

-- ---- the theorem

-- 255 is said of a number that names no unit, and of nothing else
known : (o : Option IntervalUnit) (t : List ℕ) (n : ℕ) → in_unit o t ≡ refused n → (n ≡ 255 → ⊥) → OnList n
known None t n e h = absurd (h (sym (same e)))
known (Some u) t n e h = number (an_interval precision u t) e

-- each refusal but 255 is on the list
pub listed : (c : Call) (t : List ℕ) (n : ℕ) → answer c t ≡ refused n → (n ≡ 255 → ⊥) → OnList n
unfolding year_month day_time plain_month_day_nano
listed string_to_timestamp_nanos t n e h = number (a_stamp t) e
listed string_to_time_nanoseconds t n e h = number (a_time t) e
listed site_stamp t n e h = number (its_cells t) e
listed (parse c) t n e h = number (a_column t c) e
listed interval_year_month t n e h = number (a_narrowed to_year_months (an_interval precision Year t)) e
listed interval_day_time t n e h = number (a_narrowed to_day_time (an_interval precision Day t)) e
listed interval_month_day_nano t n e h = number (an_interval precision Month t) e
listed (interval_month_day_nano_config unit) t n e h = known (unit_numbered unit) t n e h

at_least_1 : (why : Refusal) → 1 ≤ number_of why
at_least_1 NotUtf8 = lit≤ tt
at_least_1 Date = lit≤ tt
at_least_1 Separator = lit≤ tt
at_least_1 Time = lit≤ tt
at_least_1 Tail = lit≤ tt
at_least_1 OfOffset = lit≤ tt
at_least_1 Range = lit≤ tt
at_least_1 TimeOfDay = lit≤ tt
at_least_1 Interval = lit≤ tt
at_least_1 RepeatedUnit = lit≤ tt
at_least_1 Overflow = lit≤ tt
at_least_1 Narrowed = lit≤ tt
at_least_1 SiteStamp = lit≤ tt
at_least_1 OfColumn = lit≤ tt
at_least_1 OfBuffer = lit≤ tt
at_least_1 OfRecords = lit≤ tt
at_least_1 OfKeypad = lit≤ tt

-- the numbers of the list are 1 to 12, and 15
pub range : {n : ℕ} → OnList n → (1 ≤ n) × ((n ≤ 12) ⊎ (n ≡ 15))
range (on_list why h) =
    let n : ℕ = number_of why in
    (at_least_1 why, ⊎_elim (λ p. inl (leb-true n 12 p)) (λ p. inr (eqb-true n 15 p)) (or_cases (leb n 12) (eqb n 15) h))

not_zero : (c : Call) (t : List ℕ) (n : ℕ) → answer c t ≡ refused n → n ≡ 0 → ⊥
not_zero c t n e z = omega (arith, (range (listed c t n e (λ h. omega arith))).0)

-- what is accepted is not refused
pub not_refused : {A : Type 0} {o : Outcome A} {n : ℕ} → Accepts o → o ≡ refused n → ⊥
not_refused (accepts v) e = clash (sym e)

-- a status of 0 means accepted, and any other refused
pub status_0 : (c : Call) (t : List ℕ) (status : ℕ) (before after : CellsOf c) → Told (answer c t) status before after → (status ≡ 0) ↔ Accepts (answer c t)
status_0 c t status before after = by (answer c t) refl
  where
    by : (o : Outcome (CellsOf c)) → answer c t ≡ o → Told o status before after → (status ≡ 0) ↔ Accepts o
    by (accepted v) e q = (λ s. accepts v, λ a. q.0)
    by (refused n) e q = (λ s. absurd (not_zero c t n e (sym q.0 ∙ s)), λ a. absurd (not_refused a refl))
