-- What a column reads and why it refuses: the relations of `Meaning` have for each text the answer of the computation, and no other, one
-- statement over the ten columns. Assumes nothing.
use mathlib.Core.Path.{◌≡◌, refl, sym, ap, ◌∙◌}
use mathlib.Core.Bool.{Bool, true, false}
use mathlib.Core.Logic.{◌⊎◌, inl, inr, ⊎_elim, ◌↔◌}
use mathlib.Core.List.{List}
use Rattle.std.specs.Prelude.{Option, None, Some}
use Prim.Native.Nat.{ℕ, ◌^◌, ◌≤◌, ◌<◌}
use native.Mathlib.Omega.{arith}
use lib.Dec.{leb}
use lib.ListN.{length}
use lib.IntN.{ℤ, pos, ◌*ℤ◌}
use lib.Signed.{mag}
use borrow.Author.Tests.{lt-ltb, le-leb, lt-leb, leb-true, leb-false}
use Rattle.date.specs.Answer.{day_named, in_days, date_days}
use Rattle.date.proofs.Agreement as Dates
use Rattle.date.proofs.Bounds.{short_most}
use Rattle.date.proofs.Refusals.{stamps, not_6}
use Rattle.date.proofs.Refusals as DateRefusals
use Rattle.date_column.specs.Answer.{millis, date64}
use Rattle.number.specs.Decimal.{numeral}
use Rattle.number.specs.Widths.{in_type, floor, keep}
use Rattle.number.proofs.Agreement as Numerals
use Rattle.number.proofs.Zed.{near}
use Rattle.refusal.specs.Attempts.{or_else, divided}
use Rattle.refusal.specs.Outcome.{Outcome, accepted, refused, and_then}
use Rattle.refusal.proofs.Outcomes.{clash, same, or_else_lem, neither, in_turn, divided_back, still_refused, over_else}
use Rattle.text.specs.Trim.{trimmed}
use Rattle.text.proofs.Bools.{by_test, both_ways}
use Rattle.text.proofs.TrimAgrees as Trims
use Rattle.time.specs.Answer.{time_nanos}
use Rattle.time.proofs.Agreement as Times
use Rattle.time_column.specs.Answer.{on_integer, as_integer, time_column}
use Rattle.stamp_text.specs.Answer.{datetime, stamp_nanos}
use Rattle.datetime.specs.Moment.{Moment, instant}
use Rattle.stamp_text.proofs.Agreement as Stamps
use Rattle.stamp_text.proofs.Refusals as StampRefusals
use Rattle.column.specs.Columns.{column}
use Rattle.column.specs.declared.Column.{Column}
use Rattle.column.specs.declared.Column.TheVariants.{TimestampNanosecond, TimestampMicrosecond, TimestampMillisecond, TimestampSecond, Time64Nanosecond, Time64Microsecond, Time32Millisecond, Time32Second, Date32, Date64}
use Rattle.column.specs.Meaning.{TimestampColumn, nanoseconds, microseconds, milliseconds, seconds, TimeColumn, nanoseconds_64, microseconds_64, milliseconds_32, seconds_32, ReaderReads, of_stamp, of_time, of_date, up_to_ten, beyond_ten, ReaderRefuses, no_stamp, no_time, no_date, no_date_up_to_ten, no_stamp_beyond_ten, ReadsGiven, by_reader, integer_given, Reads, as_given, once_trimmed, Refuses, never_trimmed, trimmed_too}

-- ---- the four kinds of columns

data Kind : Column → Type 0 where
  a_stamp : {c : Column} {k : ℕ} → TimestampColumn c k → Kind c
  a_time : {c : Column} {k bits : ℕ} → TimeColumn c k bits → Kind c
  date_32 : Kind Date32
  date_64 : Kind Date64

kind : (c : Column) → Kind c
kind TimestampNanosecond = a_stamp nanoseconds
kind TimestampMicrosecond = a_stamp microseconds
kind TimestampMillisecond = a_stamp milliseconds
kind TimestampSecond = a_stamp seconds
kind Time64Nanosecond = a_time nanoseconds_64
kind Time64Microsecond = a_time microseconds_64
kind Time32Millisecond = a_time milliseconds_32
kind Time32Second = a_time seconds_32
kind Date32 = date_32
kind Date64 = date_64

-- ---- the reader of a column on a text as it stands

abbrev reader : Column → List ℕ → Outcome ℤ
reader TimestampNanosecond t = divided 1 (stamp_nanos t)
reader TimestampMicrosecond t = divided 1000 (stamp_nanos t)
reader TimestampMillisecond t = divided 1000000 (stamp_nanos t)
reader TimestampSecond t = divided 1000000000 (stamp_nanos t)
reader Time64Nanosecond t = divided 1 (time_nanos t)
reader Time64Microsecond t = divided 1000 (time_nanos t)
reader Time32Millisecond t = divided 1000000 (time_nanos t)
reader Time32Second t = divided 1000000000 (time_nanos t)
reader Date32 t = date_days t
reader Date64 t = date64 t

stamp_reader : {c : Column} {k : ℕ} → TimestampColumn c k → (t : List ℕ) → reader c t ≡ divided k (stamp_nanos t)
stamp_reader nanoseconds t = refl
stamp_reader microseconds t = refl
stamp_reader milliseconds t = refl
stamp_reader seconds t = refl

time_reader : {c : Column} {k bits : ℕ} → TimeColumn c k bits → (t : List ℕ) → reader c t ≡ divided k (time_nanos t)
time_reader nanoseconds_64 t = refl
time_reader microseconds_64 t = refl
time_reader milliseconds_32 t = refl
time_reader seconds_32 t = refl

-- a date of at most 10 bytes has a day number that fits 32 bits
short_day : (t : List ℕ) → length t ≤ 10 → date_days t ≡ day_named t
short_day t l = by (day_named t) refl
  where
    by : (o : Outcome ℤ) → day_named t ≡ o → and_then o in_days ≡ o
    by (accepted z) e = rw (lt-ltb (mag z) (2 ^ 31) (omega (arith, near z 37400000 (short_most t z e l))))
    by (refused n) e = refl

module _ (t : List ℕ) where
  up_to_10 : length t ≤ 10 → date64 t ≡ and_then (day_named t) (λ z. accepted (z *ℤ pos 86400000))
  up_to_10 l = rw (le-leb (length t) 10 l)

  beyond_10 : 10 < length t → date64 t ≡ and_then (datetime t) (λ m. millis (instant m))
  beyond_10 l = rw (lt-leb (length t) 10 l)

  -- what it reads

  into : {c : Column} {z : ℤ} → ReaderReads c t z → reader c t ≡ accepted z
  into (of_stamp {k = k} {z = z} s r) = stamp_reader s t ∙ ap (divided k) ((Stamps.read_as t z).0 r)
  into (of_time {k = k} {z = z} s r) = time_reader s t ∙ ap (divided k) ((Times.agrees t z).0 r)
  into (of_date {z = z} r) = (Dates.read_as t z).0 r
  into (up_to_ten {z = z} l r) = up_to_10 l ∙ rw ((Dates.agrees t z).0 r)
  into (beyond_ten m l r) = beyond_10 l ∙ rw ((Stamps.agrees t m).0 r)

  of_day : length t ≤ 10 → (o : Outcome ℤ) → day_named t ≡ o → (z : ℤ) → and_then o (λ d. accepted (d *ℤ pos 86400000)) ≡ accepted z → ReaderReads Date64 t z
  of_day l (accepted d) p z e = let q : d *ℤ pos 86400000 ≡ z = cc in rw (← q) (up_to_ten l ((Dates.agrees t d).1 p))
  of_day l (refused n) p z e = clash e

  of_moment : 10 < length t → (o : Outcome Moment) → datetime t ≡ o → (z : ℤ) → and_then o (λ m. millis (instant m)) ≡ accepted z → ReaderReads Date64 t z
  of_moment l (accepted m) p z e = let q : floor (instant m) 1000000 ≡ z = cc in rw (← q) (beyond_ten m l ((Stamps.agrees t m).1 p))
  of_moment l (refused n) p z e = clash e

  back : {c : Column} → Kind c → (z : ℤ) → reader c t ≡ accepted z → ReaderReads c t z
  back {c} (a_stamp {k = k} s) z e = divided_back (ReaderReads c t) k (stamp_nanos t) z (sym (stamp_reader s t) ∙ e) (λ y p. of_stamp s ((Stamps.read_as t y).1 p))
  back {c} (a_time {k = k} s) z e = divided_back (ReaderReads c t) k (time_nanos t) z (sym (time_reader s t) ∙ e) (λ y p. of_time s ((Times.agrees t y).1 p))
  back date_32 z e = of_date ((Dates.read_as t z).1 e)
  back date_64 z e =
      by_test (leb (length t) 10)
      (λ l. let h = leb-true (length t) 10 l in of_day h (day_named t) refl z (sym (up_to_10 h) ∙ e))
      (λ l. let h = leb-false (length t) 10 l in of_moment h (datetime t) refl z (sym (beyond_10 h) ∙ e))

  reader_reads : (c : Column) (z : ℤ) → ReaderReads c t z ↔ (reader c t ≡ accepted z)
  reader_reads c z = (into, back (kind c) z)

  -- why it refuses

  into_refused : {c : Column} {n : ℕ} → ReaderRefuses c t n → reader c t ≡ refused n
  into_refused (no_stamp {k = k} {n = n} s r) = stamp_reader s t ∙ ap (divided k) ((StampRefusals.refusals t n).0 r)
  into_refused (no_time {k = k} {n = n} s r) = time_reader s t ∙ ap (divided k) ((Times.refusals t n).0 r)
  into_refused (no_date {n = n} r) = (DateRefusals.refusals t n).0 r
  into_refused (no_date_up_to_ten {n = n} l r) = up_to_10 l ∙ rw (sym (short_day t l) ∙ (DateRefusals.refusals t n).0 r)
  into_refused (no_stamp_beyond_ten {n = n} l r s) = beyond_10 l ∙ rw (stamps t n ((StampRefusals.refusals t n).0 r) s)

  no_day : length t ≤ 10 → (o : Outcome ℤ) → day_named t ≡ o → (n : ℕ) → and_then o (λ d. accepted (d *ℤ pos 86400000)) ≡ refused n → ReaderRefuses Date64 t n
  no_day l (accepted d) p n e = clash (sym e)
  no_day l (refused m) p n e = rw (← same e) (no_date_up_to_ten l ((DateRefusals.refusals t m).1 (short_day t l ∙ p)))

  no_moment : 10 < length t → (o : Outcome Moment) → datetime t ≡ o → (n : ℕ) → and_then o (λ m. millis (instant m)) ≡ refused n → ReaderRefuses Date64 t n
  no_moment l (accepted m) p n e = clash (sym e)
  no_moment l (refused m) p n e =
      let r = (StampRefusals.refusals t m).1 (rw p) in
      rw (← same e) (no_stamp_beyond_ten l r (not_6 r p))

  back_refused : {c : Column} → Kind c → (n : ℕ) → reader c t ≡ refused n → ReaderRefuses c t n
  back_refused (a_stamp {k = k} s) n e = no_stamp s ((StampRefusals.refusals t n).1 (still_refused k (stamp_nanos t) n (sym (stamp_reader s t) ∙ e)))
  back_refused (a_time {k = k} s) n e = no_time s ((Times.refusals t n).1 (still_refused k (time_nanos t) n (sym (time_reader s t) ∙ e)))
  back_refused date_32 n e = no_date ((DateRefusals.refusals t n).1 e)
  back_refused date_64 n e =
      by_test (leb (length t) 10)
      (λ l. let h = leb-true (length t) 10 l in no_day h (day_named t) refl n (sym (up_to_10 h) ∙ e))
      (λ l. let h = leb-false (length t) 10 l in no_moment h (datetime t) refl n (sym (beyond_10 h) ∙ e))

  reader_refuses : (c : Column) (n : ℕ) → ReaderRefuses c t n ↔ (reader c t ≡ refused n)
  reader_refuses c n = (into_refused, back_refused (kind c) n)

-- ---- the text as given: in a time column an integer too

abbrev given : Column → List ℕ → Outcome ℤ
given TimestampNanosecond t = reader TimestampNanosecond t
given TimestampMicrosecond t = reader TimestampMicrosecond t
given TimestampMillisecond t = reader TimestampMillisecond t
given TimestampSecond t = reader TimestampSecond t
given Time64Nanosecond t = or_else (reader Time64Nanosecond t) (as_integer 64 t)
given Time64Microsecond t = or_else (reader Time64Microsecond t) (as_integer 64 t)
given Time32Millisecond t = or_else (reader Time32Millisecond t) (as_integer 32 t)
given Time32Second t = or_else (reader Time32Second t) (as_integer 32 t)
given Date32 t = reader Date32 t
given Date64 t = reader Date64 t

stamp_given : {c : Column} {k : ℕ} → TimestampColumn c k → (t : List ℕ) → given c t ≡ reader c t
stamp_given nanoseconds t = refl
stamp_given microseconds t = refl
stamp_given milliseconds t = refl
stamp_given seconds t = refl

time_given : {c : Column} {k bits : ℕ} → TimeColumn c k bits → (t : List ℕ) → given c t ≡ or_else (reader c t) (as_integer bits t)
time_given nanoseconds_64 t = refl
time_given microseconds_64 t = refl
time_given milliseconds_32 t = refl
time_given seconds_32 t = refl

reader_first : (t : List ℕ) {c : Column} → Kind c → (z : ℤ) → reader c t ≡ accepted z → given c t ≡ accepted z
reader_first t (a_stamp s) z e = stamp_given s t ∙ e
reader_first t (a_time s) z e = time_given s t ∙ rw e
reader_first t date_32 z e = e
reader_first t date_64 z e = e

-- an integer of the width
integer_is : (bits : ℕ) (o : Option ℤ) (z : ℤ) → on_integer (keep (in_type true bits) o) ≡ accepted z → (o ≡ Some z) × (in_type true bits z ≡ true)
integer_is bits None z e = clash e
integer_is bits (Some x) z e =
    by_test (in_type true bits x)
    (λ f. let q : x ≡ z = cc (rw f at e) in (ap Some q, rw (← q) f))
    (λ f. clash (rw f at e))

module _ (t : List ℕ) where
  given_into : {c : Column} {z : ℤ} → ReadsGiven c t z → given c t ≡ accepted z
  given_into {c} {z} (by_reader r) = reader_first t (kind c) z ((reader_reads t c z).0 r)
  given_into {c} (integer_given {k = k} {bits = bits} {z = z} s h n f) = time_given s t ∙ rw (time_reader s t) (by (time_nanos t) refl)
    where
      by : (o : Outcome ℤ) → time_nanos t ≡ o → or_else (divided k o) (as_integer bits t) ≡ accepted z
      by (accepted y) p = absurd (h y ((Times.agrees t y).1 p))
      by (refused m) p = rw ((Numerals.agrees true t z).0 n, f)

  given_back : {c : Column} → Kind c → (z : ℤ) → given c t ≡ accepted z → ReadsGiven c t z
  given_back {c} (a_stamp s) z e = by_reader ((reader_reads t c z).1 (sym (stamp_given s t) ∙ e))
  given_back {c} (a_time {k = k} {bits = bits} s) z e =
      or_else_lem (reader c t) (as_integer bits t) z (sym (time_given s t) ∙ e)
      (λ p. by_reader ((reader_reads t c z).1 p))
      (λ n p q.
      let i = integer_is bits (numeral true t) z q in
      let r = still_refused k (time_nanos t) n (sym (time_reader s t) ∙ p) in
      integer_given s (λ y d. clash (sym r ∙ (Times.agrees t y).0 d)) ((Numerals.agrees true t z).1 i.0) i.1)
  given_back date_32 z e = by_reader ((reader_reads t Date32 z).1 e)
  given_back date_64 z e = by_reader ((reader_reads t Date64 z).1 e)

  nothing_given : (c : Column) → ((y : ℤ) → ReadsGiven c t y → ⊥) → (p : Outcome ℤ) → or_else (given c t) p ≡ p
  nothing_given c h p = by (given c t) refl
    where
      by : (o : Outcome ℤ) → given c t ≡ o → or_else o p ≡ p
      by (accepted y) e = absurd (h y (given_back (kind c) y e))
      by (refused n) e = refl

-- ---- and then trimmed, but for Date64

abbrev is64 : Column → Bool
is64 TimestampNanosecond = false
is64 TimestampMicrosecond = false
is64 TimestampMillisecond = false
is64 TimestampSecond = false
is64 Time64Nanosecond = false
is64 Time64Microsecond = false
is64 Time32Millisecond = false
is64 Time32Second = false
is64 Date32 = false
is64 Date64 = true

other : {c : Column} → is64 c ≡ false → c ≡ Date64 → ⊥
other {c} f e = both_ways (is64 c) f (ap is64 e)

either_way : (c : Column) → (c ≡ Date64) ⊎ (c ≡ Date64 → ⊥)
either_way TimestampNanosecond = inr (other refl)
either_way TimestampMicrosecond = inr (other refl)
either_way TimestampMillisecond = inr (other refl)
either_way TimestampSecond = inr (other refl)
either_way Time64Nanosecond = inr (other refl)
either_way Time64Microsecond = inr (other refl)
either_way Time32Millisecond = inr (other refl)
either_way Time32Second = inr (other refl)
either_way Date32 = inr (other refl)
either_way Date64 = inl refl

module _ (t : List ℕ) where
  stamps_trimmed : (k : ℕ) → divided k (or_else (stamp_nanos t) (stamp_nanos (trimmed t))) ≡ or_else (divided k (stamp_nanos t)) (divided k (stamp_nanos (trimmed t)))
  stamps_trimmed k = over_else k (stamp_nanos t) (stamp_nanos (trimmed t))

  times_trimmed : (k bits : ℕ) → time_column k bits t ≡ or_else (or_else (divided k (time_nanos t)) (as_integer bits t)) (divided k (time_nanos (trimmed t)))
  times_trimmed k bits = in_turn (divided k (time_nanos t)) (as_integer bits t) (divided k (time_nanos (trimmed t)))

  then_trimmed : (c : Column) → (c ≡ Date64 → ⊥) → column c t ≡ or_else (given c t) (reader c (trimmed t))
  then_trimmed TimestampNanosecond p = stamps_trimmed 1
  then_trimmed TimestampMicrosecond p = stamps_trimmed 1000
  then_trimmed TimestampMillisecond p = stamps_trimmed 1000000
  then_trimmed TimestampSecond p = stamps_trimmed 1000000000
  then_trimmed Time64Nanosecond p = times_trimmed 1 64
  then_trimmed Time64Microsecond p = times_trimmed 1000 64
  then_trimmed Time32Millisecond p = times_trimmed 1000000 32
  then_trimmed Time32Second p = times_trimmed 1000000000 32
  then_trimmed Date32 p = refl
  then_trimmed Date64 p = absurd (p refl)

  never : (c : Column) → c ≡ Date64 → column c t ≡ given c t
  never c e = rw e

  -- nothing is read in the text as given, and m is what is left of it
  trimmed_is : (c : Column) (m : List ℕ) → (c ≡ Date64 → ⊥) → ((y : ℤ) → ReadsGiven c t y → ⊥) → trimmed t ≡ m → column c t ≡ reader c m
  trimmed_is c m p h e = then_trimmed c p ∙ nothing_given t c h (reader c (trimmed t)) ∙ ap (reader c) e

-- ---- the theorem, of what is read and of why it is refused

pub read_as : (c : Column) (t : List ℕ) (z : ℤ) → Reads c t z ↔ (column c t ≡ accepted z)
read_as c t z = (into_reads, λ e. ⊎_elim (whole e) (retry e) (either_way c))
  where
    into_reads : Reads c t z → column c t ≡ accepted z
    into_reads (as_given g) = ⊎_elim (λ p. never t c p ∙ given_into t g) (λ p. then_trimmed t c p ∙ rw (given_into t g)) (either_way c)
    into_reads (once_trimmed {u = u} p h m r) = trimmed_is t c u p h ((Trims.agrees t u).0 m) ∙ (reader_reads u c z).0 r

    whole : column c t ≡ accepted z → c ≡ Date64 → Reads c t z
    whole e p = as_given (given_back t (kind c) z (sym (never t c p) ∙ e))

    retry : column c t ≡ accepted z → (c ≡ Date64 → ⊥) → Reads c t z
    retry e p =
        or_else_lem (given c t) (reader c (trimmed t)) z (sym (then_trimmed t c p) ∙ e)
        (λ g. as_given (given_back t (kind c) z g))
        (λ n g r. once_trimmed p (λ y d. clash (sym g ∙ given_into t d)) ((Trims.agrees t (trimmed t)).1 refl) ((reader_reads (trimmed t) c z).1 r))

pub refusals : (c : Column) (t : List ℕ) (n : ℕ) → Refuses c t n ↔ (column c t ≡ refused n)
refusals c t n = (into_refuses, λ e. ⊎_elim (whole e) (retry e) (either_way c))
  where
    into_refuses : {c : Column} → Refuses c t n → column c t ≡ refused n
    into_refuses (never_trimmed r) = (reader_refuses t Date64 n).0 r
    into_refuses {c} (trimmed_too {u = u} p h m r) = trimmed_is t c u p h ((Trims.agrees t u).0 m) ∙ (reader_refuses u c n).0 r

    whole : column c t ≡ refused n → c ≡ Date64 → Refuses c t n
    whole e p = rw p (never_trimmed ((reader_refuses t Date64 n).1 (rw p at e)))

    retry : column c t ≡ refused n → (c ≡ Date64 → ⊥) → Refuses c t n
    retry e p =
        neither (given c t) (reader c (trimmed t)) n (sym (then_trimmed t c p) ∙ e)
        (λ m g r. trimmed_too p (λ y d. clash (sym g ∙ given_into t d)) ((Trims.agrees t (trimmed t)).1 refl) ((reader_refuses (trimmed t) c n).1 r))
