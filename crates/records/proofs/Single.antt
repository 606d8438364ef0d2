-- One record: what is computed of its bytes is what the relation says, and the bytes of what it holds are its own. Assumes nothing.
use mathlib.Core.Path.{◌≡◌, refl, sym, ap, ap₂, ◌∙◌}
use mathlib.Core.Bool.{Bool, true, ◌&&◌}
use mathlib.Core.Logic.{◌↔◌}
use mathlib.Core.List.{List, ◌++◌, append_assoc}
use Rattle.std.specs.Prelude.{Some}
use Prim.Native.Nat.{ℕ, ◌*◌, ◌%◌, ◌^◌, ◌<◌}
use native.Mathlib.Omega.{arith}
use lib.Dec.{eqb, lit<}
use lib.IntN.{ℤ, pos, negsuc, nat_abs, ◌*ℤ◌}
use lib.Signed.{mag, quot_z}
use lib.ListN.{length, take, drop, length-append, length-drop, take-append-drop}
use lib.Seq.{drop-drop, length-take-le}
use borrow.Author.Tests.{eqb-true, eq-eqb, lt-ltb, ltb-true}
use Rattle.text.proofs.Bools.{by_test, and_left, and_right}
use Rattle.text.proofs.Logic.{none_some}
use Rattle.number.specs.Widths.{in_signed}
use Rattle.number.proofs.Zed.{mul_p, mul_n, of_mag, abs_zero}
use Rattle.little_endian.specs.Bytes.{Bytes}
use Rattle.little_endian.proofs.Undo.{append, take_bytes, drop_bytes, number_fits, holds, held, of_holds, only}
use Rattle.rule.specs.Contribution.{Counts, counts}
use Rattle.rule.specs.Meaning.{DayTime, day_time_of}
use Rattle.rule.proofs.Demand3.{quot_back, no_rest, multiple}
use Rattle.records.proofs.Parts.{front}
use Rattle.records.specs.Records.{DayTimeRecord, day_time, MonthDayNanoRecord, month_day_nano, Same, same, Converts, converts}
use Rattle.records.specs.Answer.{day_time_in, day_time_bytes, month_day_nano_in, month_day_nano_bytes, to_month_day_nano, goes, to_day_time, bytes_if, new_record, old_record}

-- ---- a record and what it holds

record OfDayTime (r : List ℕ) (x : DayTime) : Type 0 where
  reads : day_time_in r ≡ x
  writes : day_time_bytes x ≡ r
  long : length r ≡ 8
  bytes : Bytes r
  days_fit : in_signed 31 x.days ≡ true
  millis_fit : in_signed 31 x.millis ≡ true

of_day_time : {r : List ℕ} {x : DayTime} → DayTimeRecord r x → OfDayTime r x
of_day_time (day_time {days} {millis} {d} {m} p q) =
    let D = of_holds 4 (lit< tt) p in
    let M = of_holds 4 (lit< tt) q in
    let f = front 4 days millis D.long in
    record {
      reads = rw (f.0, f.1, D.is_number, M.is_number) refl;
      writes = ap₂ ◌++◌ ((only 4 (lit< tt) d days D.in_width).0 p) ((only 4 (lit< tt) m millis M.in_width).0 q);
      long = omega (arith, length-append days millis, D.long, M.long);
      bytes = append days millis D.bytes M.bytes;
      days_fit = D.in_width;
      millis_fit = M.in_width;
    }

record OfMonthDayNano (r : List ℕ) (c : Counts) : Type 0 where
  reads : month_day_nano_in r ≡ c
  writes : month_day_nano_bytes c ≡ r
  long : length r ≡ 16
  bytes : Bytes r

of_month_day_nano : {r : List ℕ} {c : Counts} → MonthDayNanoRecord r c → OfMonthDayNano r c
of_month_day_nano (month_day_nano {months} {days} {nanos} {m} {d} {n} p q o) =
    let M = of_holds 4 (lit< tt) p in
    let D = of_holds 4 (lit< tt) q in
    let N = of_holds 8 (lit< tt) o in
    let f = front 4 months (days ++ nanos) M.long in
    let g = front 4 days nanos D.long in
    let months_days : length (months ++ days) ≡ 8 = omega (arith, length-append months days, M.long, D.long) in
    let h = rw append_assoc at (front 8 (months ++ days) nanos months_days).1 in
    record {
      reads = rw (f.0, f.1, g.0, h, M.is_number, D.is_number, N.is_number) refl;
      writes = ap₂ ◌++◌ ((only 4 (lit< tt) m months M.in_width).0 p)
          (ap₂ ◌++◌ ((only 4 (lit< tt) d days D.in_width).0 q) ((only 8 (lit< tt) n nanos N.in_width).0 o));
      long = omega (arith, length-append months (days ++ nanos), length-append days nanos, M.long, D.long, N.long);
      bytes = append months (days ++ nanos) M.bytes (append days nanos D.bytes N.bytes);
    }

-- any 8 bytes are an old record, and any 16 a new one
a_day_time : (r : List ℕ) → Bytes r → length r ≡ 8 → DayTimeRecord r (day_time_in r)
a_day_time r h e =
    let days = holds 4 (take 4 r) (take_bytes 4 r h) (length-take-le 4 r (omega (arith, e))) in
    let millis = holds 4 (drop 4 r) (drop_bytes 4 r h) (omega (arith, length-drop 4 r, e)) in
    let parts : DayTimeRecord (take 4 r ++ drop 4 r) (day_time_in r) = day_time days millis in
    rw (take-append-drop 4 r) at parts

a_month_day_nano : (r : List ℕ) → Bytes r → length r ≡ 16 → MonthDayNanoRecord r (month_day_nano_in r)
a_month_day_nano r h e =
    let rest = drop 4 r in
    let long : length rest ≡ 12 = omega (arith, length-drop 4 r, e) in
    let months = holds 4 (take 4 r) (take_bytes 4 r h) (length-take-le 4 r (omega (arith, e))) in
    let days = holds 4 (take 4 rest) (take_bytes 4 rest (drop_bytes 4 r h)) (length-take-le 4 rest (omega (arith, long))) in
    let nanos = holds 8 (drop 8 r) (drop_bytes 8 r h) (omega (arith, length-drop 8 r, e)) in
    let parts : MonthDayNanoRecord (take 4 r ++ (take 4 rest ++ drop 8 r)) (month_day_nano_in r) = month_day_nano months days nanos in
    let tail : take 4 rest ++ drop 8 r ≡ rest = ap (λ (t : List ℕ). take 4 rest ++ t) (sym (drop-drop 4 4 r)) ∙ take-append-drop 4 rest in
    rw (tail, take-append-drop 4 r) at parts

-- ---- an old record's new one

-- milliseconds of 32 bits are nanoseconds of 64
nanos_fit : (m : ℤ) → in_signed 31 m ≡ true → in_signed 63 (m *ℤ pos 1_000_000) ≡ true
nanos_fit (pos n) h = lt-ltb (n * 1_000_000) (2 ^ 63) (omega (arith, ltb-true n (2 ^ 31) h))
nanos_fit (negsuc n) h =
    let z : ℤ = negsuc n *ℤ pos 1_000_000 in
    let l : mag z < 2 ^ 63 = of_mag z (omega (arith, mul_p (negsuc n) 1_000_000)) (omega (arith, mul_n (negsuc n) 1_000_000, ltb-true n (2 ^ 31) h)) in
    lt-ltb (mag z) (2 ^ 63) l

some_is : {A : Type 0} {a b : A} → Some a ≡ Some b → a ≡ b
some_is e = cc

goes_new : {a b : List ℕ} → Converts a b → new_record a ≡ Some b
unfolding to_month_day_nano
goes_new (converts p q same) = ap (λ (x : DayTime). Some (month_day_nano_bytes (to_month_day_nano x))) (of_day_time p).reads ∙ ap Some (of_month_day_nano q).writes

is_new : (a b : List ℕ) → Bytes a → length a ≡ 8 → new_record a ≡ Some b → Converts a b
unfolding to_month_day_nano
is_new a b h l e =
    let x : DayTime = day_time_in a in
    let p = a_day_time a h l in
    let o = of_day_time p in
    let q : MonthDayNanoRecord (month_day_nano_bytes (to_month_day_nano x)) (to_month_day_nano x) =
    month_day_nano (held 4 (lit< tt) (pos 0) refl) (held 4 (lit< tt) x.days o.days_fit) (held 8 (lit< tt) (x.millis *ℤ pos 1_000_000) (nanos_fit x.millis o.millis_fit)) in
    converts p (rw (some_is e) at q) same

-- an old record goes to the new one that is computed, and to no other
pub new : (a b : List ℕ) → Bytes a → length a ≡ 8 → Converts a b ↔ (new_record a ≡ Some b)
new a b h l = (goes_new, is_new a b h l)

-- ---- a new record's old one

held_back : (d m : ℤ) → in_signed 31 m ≡ true → to_day_time (counts (pos 0) d (m *ℤ pos 1_000_000)) ≡ Some (day_time_of d m)
unfolding to_day_time goes
held_back d m h = rw (eq-eqb (nat_abs (m *ℤ pos 1_000_000) % 1_000_000) 0 (no_rest m), quot_back m, h) refl

goes_old : {a b : List ℕ} → Converts a b → old_record b ≡ Some a
unfolding bytes_if
goes_old (converts p q (same {d} {m})) =
    let o = of_day_time p in
    rw ((of_month_day_nano q).reads, held_back d m o.millis_fit) (ap Some o.writes)

same_as : (mo d n m : ℤ) → mo ≡ pos 0 → n ≡ m *ℤ pos 1_000_000 → Same (day_time_of d m) (counts mo d n)
same_as mo d n m e f = rw (e, f) same

-- the old record that is computed of a new one's counts
from_counts : (a b : List ℕ) (c : Counts) → MonthDayNanoRecord b c → in_signed 31 c.days ≡ true → bytes_if (to_day_time c) ≡ Some a → Converts a b
unfolding to_day_time goes bytes_if
from_counts a b c q days_fit e = by_test (goes c) it_goes (λ f. none_some (rw f at e))
  where
    it_goes : goes c ≡ true → Converts a b
    it_goes f =
        let m : ℤ = quot_z c.nanos (pos 1_000_000) in
        let fits : Bool = in_signed 31 m in
        let divides : Bool = eqb (nat_abs c.nanos % 1_000_000) 0 in
        let no_months : Bool = eqb (nat_abs c.months) 0 in
        let g : divides && fits ≡ true = and_right no_months (divides && fits) f in
        let no_rest : nat_abs c.nanos % 1_000_000 ≡ 0 = eqb-true (nat_abs c.nanos % 1_000_000) 0 (and_left divides fits g) in
        let p : DayTimeRecord (day_time_bytes (day_time_of c.days m)) (day_time_of c.days m) =
        day_time (held 4 (lit< tt) c.days days_fit) (held 4 (lit< tt) m (and_right divides fits g)) in
        let months : c.months ≡ pos 0 = abs_zero c.months (eqb-true (nat_abs c.months) 0 (and_left no_months (divides && fits) f)) in
        converts (rw (some_is (rw f at e)) at p) q (same_as c.months c.days c.nanos m months (multiple c.nanos no_rest))

is_old : (a b : List ℕ) → Bytes b → length b ≡ 16 → old_record b ≡ Some a → Converts a b
is_old a b h l =
    let rest : List ℕ = drop 4 b in
    let days_fit = number_fits 4 (lit< tt) (take 4 rest) (take_bytes 4 rest (drop_bytes 4 b h)) (length-take-le 4 rest (omega (arith, l, length-drop 4 b))) in
    from_counts a b (month_day_nano_in b) (a_month_day_nano b h l) days_fit

-- a new record goes back to the old one that is computed, and to no other; where none is computed it has none
pub old : (a b : List ℕ) → Bytes b → length b ≡ 16 → Converts a b ↔ (old_record b ≡ Some a)
old a b h l = (goes_old, is_old a b h l)

-- ---- bytes

-- what goes is 8 bytes, and 16
pub sizes : {a b : List ℕ} → Converts a b → ((length a ≡ 8) × Bytes a) × ((length b ≡ 16) × Bytes b)
sizes (converts p q s) =
    let o = of_day_time p in
    let n = of_month_day_nano q in
    ((o.long, o.bytes), (n.long, n.bytes))
