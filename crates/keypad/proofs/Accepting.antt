-- The reader of months, days and nanoseconds accepts every keypad text, with any default unit (document 02, No. 9): no unit comes twice, and digits are so
-- small that even twelve of them fit in any order. Over the limit n of digits behind a point. Assumes nothing.
use mathlib.Core.Path.{◌≡◌, refl}
use mathlib.Core.Bool.{true, false}
use mathlib.Core.List.{List, [], ◌∷◌}
use Rattle.std.specs.Prelude.{Some}
use Prim.Native.Nat.{ℕ, suc, ◌+◌, ◌*◌, ◌^◌, ◌≤◌}
use native.Mathlib.Nat.{zero-div, zero-mul, mul-le-mul_right}
use native.Mathlib.Omega.{arith}
use lib.Dec.{eqb}
use lib.ListN.{length}
use lib.IntN.{pos, +ℤ_idr}
use lib.Signed.{mag}
use borrow.Author.Tests.{lt-ltb}
use Rattle.text.proofs.Bools.{fails, holds_not}
use Rattle.refusal.specs.Outcome.{accepted}
use Rattle.unit.specs.Units.{rank, or_else, units}
use Rattle.unit.specs.declared.IntervalUnit.{IntervalUnit}
use Rattle.unit.specs.declared.IntervalUnit.TheVariants.{Century, Decade, Year, Month, Week, Day, Hour, Minute, Second, Millisecond, Microsecond, Nanosecond}
use Rattle.unit.proofs.Numbering.{same_unit}
use Rattle.amount.specs.Grammar.{valued}
use Rattle.amount.proofs.AmountLaws.{same_sign}
use Rattle.component.specs.Grammar.{component as divided}
use Rattle.component.specs.Spelled.{spelled, unit_for}
use Rattle.rule.specs.Contribution.{Counts, counts, times, whole_times, frac_times, contribution, fits, plus, zeros}
use Rattle.rule.specs.Meaning.{Runs, done, add, Means, totalled}
use Rattle.rule.specs.Answer.{has, twice, month_day_nano}
use Rattle.rule.proofs.Cuts.{times_cut}
use Rattle.rule.proofs.Demand3.{repeats, means as meaning}
use Rattle.keypad.specs.Texts.{word, Component, component, Without, nowhere, not_here, Once, no_component, one_more, KeypadText}
use Rattle.keypad.proofs.Joins.{amount, word_unit, pieces, divides, all_among}
use Rattle.keypad.proofs.Drawn.{Among, nothing, among}

-- ---- no unit comes twice

module _ (u : IntervalUnit) where
  own_unit : (d : ℕ) (v : IntervalUnit) → unit_for u (divided ((0x30 + d) ∷ []) false (Some (word v))) ≡ v
  unfolding unit_for spelled or_else
  own_unit d v = rw (word_unit v) refl

  nowhere_else : {v : IntervalUnit} {l : List Component} → Without v l → has u v (pieces l) ≡ false
  unfolding has pieces
  nowhere_else nowhere = refl
  nowhere_else {v} (not_here {c} {l} n w) = rw (own_unit c.digit c.unit, fails (eqb (rank v) (rank c.unit)) (same_unit v c.unit) n) (nowhere_else w)

  no_unit_twice : {l : List Component} → Once l → twice u (pieces l) ≡ false
  unfolding twice pieces
  no_unit_twice no_component = refl
  no_unit_twice (one_more {c} {l} w o) = rw (own_unit c.digit c.unit, nowhere_else w) (no_unit_twice o)

-- ---- all fits

-- counts of at most j digits, each of the largest unit of its count
record Small (j : ℕ) (c : Counts) : Type 0 where
  months : ℕ
  days : ℕ
  nanos : ℕ
  are : c ≡ counts (pos months) (pos days) (pos nanos)
  months_small : months ≤ j * 10_800
  days_small : days ≤ j * 63
  nanos_small : nanos ≤ j * 32_400_000_000_000

small : {j : ℕ} (m d n : ℕ) → m ≤ j * 10_800 → d ≤ j * 63 → n ≤ j * 32_400_000_000_000 → Small j (counts (pos m) (pos d) (pos n))
small m d n h k l = record { months = m; days = d; nanos = n; are = refl; months_small = h; days_small = k; nanos_small = l }

small_fits : {j : ℕ} {c : Counts} → j ≤ 12 → Small j c → fits c ≡ true
unfolding fits
small_fits h s =
    rw (s.are, lt-ltb (mag (pos s.months)) (2 ^ 31) (omega (arith, s.months_small)), lt-ltb (mag (pos s.days)) (2 ^ 31) (omega (arith, s.days_small)), lt-ltb (mag (pos s.nanos)) (2 ^ 63) (omega (arith, s.nanos_small)))
    refl

summed : {j : ℕ} {c k : Counts} → Small j c → Small 1 k → Small (suc j) (plus c k)
unfolding plus
summed s t =
    rw (s.are, t.are)
    (small (s.months + t.months) (s.days + t.days) (s.nanos + t.nanos) (omega (arith, s.months_small, t.months_small)) (omega (arith, s.days_small, t.days_small)) (omega (arith, s.nanos_small, t.nanos_small)))

module _ (n d : ℕ) (h : d ≤ 9) where
  no_fraction : (k : ℕ) → frac_times n k (valued (pos d) (pos 0)) ≡ pos 0
  unfolding frac_times
  no_fraction k = rw (zero-mul k, zero-div) refl

  whole : (k : ℕ) → whole_times k (valued (pos d) (pos 0)) ≡ pos (d * k)
  unfolding whole_times
  whole k = refl

  product : (k : ℕ) → times n k (valued (pos d) (pos 0)) ≡ pos (d * k)
  product k = rw (times_cut n k (valued (pos d) (pos 0)) (same_sign (amount n d h)), whole k, no_fraction k) (+ℤ_idr (pos (d * k)))

  in_months : (k : ℕ) → k ≤ 1200 → Small 1 (counts (times n k (valued (pos d) (pos 0))) (pos 0) (pos 0))
  in_months k l = let m : d * k ≤ 9 * k = mul-le-mul_right k h in rw (product k) (small (d * k) 0 0 (omega (arith, m)) (omega arith) (omega arith))

  in_days : (k f : ℕ) → k ≤ 7 → Small 1 (counts (pos 0) (whole_times k (valued (pos d) (pos 0))) (frac_times n f (valued (pos d) (pos 0))))
  in_days k f l =
      let m : d * k ≤ 9 * k = mul-le-mul_right k h in rw (whole k, no_fraction f) (small 0 (d * k) 0 (omega arith) (omega (arith, m)) (omega arith))

  in_nanos : (k : ℕ) → k ≤ 3_600_000_000_000 → Small 1 (counts (pos 0) (pos 0) (times n k (valued (pos d) (pos 0))))
  in_nanos k l = let m : d * k ≤ 9 * k = mul-le-mul_right k h in rw (product k) (small 0 0 (d * k) (omega arith) (omega arith) (omega (arith, m)))

  of_digit : (v : IntervalUnit) → Small 1 (contribution n v (valued (pos d) (pos 0)))
  unfolding contribution
  of_digit Century = in_months 1200 (omega arith)
  of_digit Decade = in_months 120 (omega arith)
  of_digit Year = in_months 12 (omega arith)
  of_digit Month = rw (whole 1, no_fraction 30) (small (d * 1) 0 0 (omega arith) (omega arith) (omega arith))
  of_digit Week = in_days 7 604_800_000_000_000 (omega arith)
  of_digit Day = in_days 1 86_400_000_000_000 (omega arith)
  of_digit Hour = in_nanos 3_600_000_000_000 (omega arith)
  of_digit Minute = in_nanos 60_000_000_000 (omega arith)
  of_digit Second = in_nanos 1_000_000_000 (omega arith)
  of_digit Millisecond = in_nanos 1_000_000 (omega arith)
  of_digit Microsecond = in_nanos 1_000 (omega arith)
  of_digit Nanosecond = in_nanos 1 (omega arith)

-- ---- so it is accepted

data Totals (n : ℕ) (u : IntervalUnit) (c : Counts) (l : List Component) : Type 0 where
  totals : (e : Counts) → Runs n u c (pieces l) e → Totals n u c l

runs : {j : ℕ} {c : Counts} {l : List Component} (n : ℕ) (u : IntervalUnit) → Among units l → j + length l ≤ 12 → Small j c → Totals n u c l
unfolding pieces
runs {c = c} n u nothing h s = totals c done
runs {j} {c} n u (among {d} {u = v} {m} b p a) h s = by_rest (runs {j = suc j} n u a (omega arith) t)
  where
    k : Counts
    k = contribution n v (valued (pos d) (pos 0))

    f : Small 1 k
    f = of_digit n d b v

    t : Small (suc j) (plus c k)
    t = summed s f

    by_rest : Totals n u (plus c k) m → Totals n u c (component d v ∷ m)
    by_rest (totals e R) =
        totals e (add (amount n d b) (rw (own_unit u d v) (small_fits (omega arith) f)) (rw (own_unit u d v) (small_fits (omega arith) t)) (rw (own_unit u d v) R))

-- what a keypad text means: accepted with some counts
pub record Accepted (n : ℕ) (u : IntervalUnit) (t : List ℕ) : Type 0 where
  pub value : Counts
  pub means : Means n u t (accepted value)
  pub reads : month_day_nano n u t ≡ accepted value

pub accepts : (n : ℕ) (u : IntervalUnit) (t : List ℕ) → KeypadText t → Accepted n u t
accepts n u t T = by_totals (runs {j = 0} n u (all_among T.joined) (omega (arith, T.few)) (small 0 0 0 (omega arith) (omega arith) (omega arith)))
  where
    by_totals : Totals n u zeros T.components → Accepted n u t
    by_totals (totals e R) =
        let m = totalled (divides n T.joined) (holds_not (no_unit_twice u T.once) (repeats u (pieces T.components)).0) R in
        record { value = e; means = m; reads = (meaning n u t (accepted e)).0 m }
