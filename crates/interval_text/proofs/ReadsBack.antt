-- An interval's text is read back as the interval, with any default unit, and no two intervals have one text (document 02, No. 4). Assumes nothing.
use mathlib.Core.Path.{◌≡◌, refl, sym, ◌∙◌}
use mathlib.Core.Bool.{Bool, true, false, ◌&&◌}
use mathlib.Core.List.{List, [], ◌∷◌, ◌++◌}
use Rattle.std.specs.Prelude.{Some}
use Prim.Native.Nat.{ℕ, ◌^◌, ◌<◌}
use Prim.Native.String.{String}
use native.Mathlib.Nat.{zero-div, zero-mul}
use native.Mathlib.Omega.{arith}
use lib.Dec.{eqb}
use lib.IntN.{ℤ, pos, nat_abs, one, *ℤ-one, +ℤ_idl, +ℤ_idr}
use lib.Signed.{mag}
use borrow.Author.Tests.{eqb-true, ne_eqb, lt-ltb, ltb-true}
use Rattle.text.specs.Digits.{digits, value}
use Rattle.text.proofs.Bools.{by_test, holds_not}
use Rattle.text.proofs.Logic.{both}
use Rattle.utf8.specs.Quoted.{bytes}
use Rattle.white.specs.WhiteSpace.{white}
use Rattle.number.specs.Decimal.{one_or_more}
use Rattle.number.specs.Widths.{in_signed, signed}
use Rattle.number.proofs.Zed.{abs_zero}
use Rattle.refusal.specs.Outcome.{accepted}
use Rattle.unit.specs.declared.IntervalUnit.{IntervalUnit}
use Rattle.unit.specs.declared.IntervalUnit.TheVariants.{Month, Day, Nanosecond}
use Rattle.unit.specs.Units.{rank, spellings, same, one_of, find, low, kelvin, lower, unit_of, present, is_unit, or_else}
use Rattle.amount.specs.Grammar.{valued, no_sign, minus as minus_sign, Whole, whole_fits, Amount, whole}
use Rattle.amount.proofs.AmountLaws.{same_sign}
use Rattle.component.specs.Grammar.{Component, component, Complete, apart, Divides, last, more}
use Rattle.component.specs.Spelled.{spelled, unit_for}
use Rattle.decimal.specs.Decimal.{decimal_in, decimal, signed_text}
use Rattle.decimal.specs.NumberText.{NoZeroInFront, NumberText, zero_digit, plain, minus}
use Rattle.decimal.proofs.Agreement.{agrees, written_digits}
use Rattle.rule.specs.Contribution.{Counts, counts, whole_times, frac_times, contribution, fits, plus, zeros}
use Rattle.rule.specs.Meaning.{Runs, done, add, Means, totalled}
use Rattle.rule.specs.Answer.{has, twice, month_day_nano}
use Rattle.rule.proofs.Cuts.{times_cut}
use Rattle.rule.proofs.Demand3.{repeats, means as meaning}
use Rattle.interval_text.specs.Text.{part_before, parts, spaced, interval_text}

-- ---- an amount

whole_digits : {neg : Bool} {d : List ℕ} → NoZeroInFront d → in_signed 63 (signed neg (value 0 d)) ≡ true → Whole neg d
unfolding whole_fits
whole_digits p h = record { written = written_digits p; fitting = h }

of_text : {n : ℕ} {z : ℤ} {t : List ℕ} → in_signed 63 z ≡ true → NumberText z t → Amount n t (valued z (pos 0))
unfolding value digits whole_fits
of_text h zero_digit = whole no_sign (record { written = one_or_more refl refl; fitting = refl })
of_text h (plain p) = whole no_sign (whole_digits p h)
of_text h (minus p) = whole minus_sign (whole_digits p h)

-- the text of a number of 64 bits is one, with no fraction
amount : (n : ℕ) (z : ℤ) → in_signed 63 z ≡ true → Amount n (signed_text z) (valued z (pos 0))
amount n z h = of_text h ((agrees z (signed_text z)).1 refl)

in_more_bits : (z : ℤ) → in_signed 31 z ≡ true → in_signed 63 z ≡ true
in_more_bits z h = lt-ltb (mag z) (2 ^ 63) (omega (arith, ltb-true (mag z) (2 ^ 31) h))

-- ---- what it contributes to the count of its unit is itself

module _ (n : ℕ) (z : ℤ) where
  whole_part : whole_times 1 (valued z (pos 0)) ≡ z
  unfolding whole_times one
  whole_part = *ℤ-one z

  no_fraction : (k : ℕ) → frac_times n k (valued z (pos 0)) ≡ pos 0
  unfolding frac_times
  no_fraction k = rw (zero-mul k, zero-div) refl

  in_months : contribution n Month (valued z (pos 0)) ≡ counts z (pos 0) (pos 0)
  unfolding contribution
  in_months = rw (whole_part, no_fraction 30) refl

  in_days : contribution n Day (valued z (pos 0)) ≡ counts (pos 0) z (pos 0)
  unfolding contribution
  in_days = rw (whole_part, no_fraction 86_400_000_000_000) refl

  in_nanos : in_signed 63 z ≡ true → contribution n Nanosecond (valued z (pos 0)) ≡ counts (pos 0) (pos 0) z
  unfolding contribution
  in_nanos h = rw (times_cut n 1 (valued z (pos 0)) (same_sign (amount n z h)), whole_part, no_fraction 1, +ℤ_idr z) refl

-- ---- parts and their components

-- the unit of each word
words : (unit_of (bytes "months") ≡ Some Month) × (unit_of (bytes "days") ≡ Some Day) × (unit_of (bytes "nanoseconds") ≡ Some Nanosecond)
unfolding spellings same one_of find low kelvin lower unit_of
words = (refl, refl, refl)

-- each part is a component, with its unit
data Each (n : ℕ) : List (List ℕ) → List Component → Type 0 where
  none_left : Each n [] []
  one_more : {p : List ℕ} {l : List (List ℕ)} {c : Component} {d : List Component} → Complete n p c → Each n l d → Each n (p ∷ l) (c ∷ d)

divided : {n : ℕ} {p : List ℕ} {l : List (List ℕ)} {c : Component} {d : List Component} → Complete n p c → Each n l d
    → Divides n (spaced (p ∷ l)) (c ∷ d)
unfolding spaced
divided C none_left = last C
divided C (one_more D r) = more C (white 0x20 refl) (divided D r)

module _ (n : ℕ) (u : IntervalUnit) where
  -- the components of the parts l: they add up from c to e, no unit comes twice, and none has a rank below k
  record Read (l : List (List ℕ)) (k : ℕ) (c e : Counts) : Type 0 where
    division : List Component
    each : Each n l division
    runs : Runs n u c division e
    once : twice u division ≡ false
    ranks : (v : IntervalUnit) → rank v < k → has u v division ≡ false

  no_part : (e : Counts) → Read [] 12 e e
  unfolding twice has
  no_part e = record { division = []; each = none_left; runs = done; once = refl; ranks = λ v h. refl }

  -- the amount z of the unit v, which contributes k and so makes d of c, before parts that add up from d on
  module _ (z : ℤ) (word : String) {v : IntervalUnit} (w : unit_of (bytes word) ≡ Some v) (h : in_signed 63 z ≡ true) (c d : Counts) {k : Counts}
      (q : contribution n v (valued z (pos 0)) ≡ k) (f : fits k ≡ true) (g : fits d ≡ true) (s : plus c k ≡ d) {l : List (List ℕ)} {r : ℕ} {e : Counts}
      (R : Read l r d e) (o : rank v < r) where
    part : Read ((signed_text z ++ (0x20 ∷ bytes word)) ∷ l) (rank v) c e
    unfolding is_unit present unit_for spelled or_else twice has
    part = record {
      division = component (signed_text z) true (Some (bytes word)) ∷ R.division;
      each = one_more (apart (amount n z h) (white 0x20 refl) (rw (w) refl)) R.each;
      runs = add (amount n z h) (rw (w, q) f) (rw (w, q, s) g) (rw (w, q, s) R.runs);
      once = rw (w, R.ranks v o) R.once;
      ranks = λ x y. rw (w, ne_eqb (rank x) (rank v) (λ t. omega arith)) (R.ranks x (omega arith));
    }

    -- left out where it is zero, and then d is c
    part_or_none : (z ≡ pos 0 → c ≡ d) → Read (part_before z word l) (rank v) c e
    unfolding part_before
    part_or_none t =
        by_test (eqb (nat_abs z) 0)
        (λ y. let x : c ≡ d = t (abs_zero z (eqb-true (nat_abs z) 0 y)) in
        rw (y) (record { division = R.division; each = R.each; runs = rw (x) R.runs; once = R.once; ranks = λ i j. R.ranks i (omega arith) }))
        (λ y. rw (y) part)

  -- a text of one part at least
  some_part : {p : List ℕ} {l : List (List ℕ)} {d : List Component} {e : Counts} → Each n (p ∷ l) d → twice u d ≡ false → Runs n u zeros d e
      → Means n u (spaced (p ∷ l)) (accepted e)
  some_part (one_more {c = c} {d = d} C r) t S = totalled (divided C r) (holds_not t (repeats u (c ∷ d)).0) S

  -- and "0 months", the text of none
  zero_months : Read ((signed_text (pos 0) ++ (0x20 ∷ bytes "months")) ∷ []) 3 zeros zeros
  unfolding rank fits plus
  zero_months = part (pos 0) "months" words.0 refl zeros zeros (in_months n (pos 0)) refl refl refl (no_part zeros) (omega arith)

  all_parts : {l : List (List ℕ)} {d : List Component} {e : Counts} → Each n l d → twice u d ≡ false → Runs n u zeros d e
      → Means n u (spaced l) (accepted e)
  unfolding spaced signed_text decimal decimal_in
  all_parts none_left t done = some_part zero_months.each zero_months.once zero_months.runs
  all_parts (one_more C r) t S = some_part (one_more C r) t S

  meant : {l : List (List ℕ)} {k : ℕ} {e : Counts} → Read l k zeros e → Means n u (spaced l) (accepted e)
  meant R = all_parts R.each R.once R.runs

-- ---- three counts

-- the text of an interval means it
pub means : (n : ℕ) (u : IntervalUnit) (c : Counts) → fits c ≡ true → Means n u (interval_text c) (accepted c)
unfolding interval_text parts fits plus rank
means n u c f =
    let m = c.months in
    let d = c.days in
    let s = c.nanos in
    let g = both (in_signed 31 m) (in_signed 31 d && in_signed 63 s) f in
    let h = both (in_signed 31 d) (in_signed 63 s) g.1 in
    let month = counts m (pos 0) (pos 0) in
    let day = counts m d (pos 0) in
    let z = part_or_none n u s "nanoseconds" words.2 h.1 day c (in_nanos n s h.1) h.1 f (rw (+ℤ_idr m, +ℤ_idr d, +ℤ_idl s) refl)
    (no_part n u c) (omega arith) (λ t. rw (t) refl) in
    let y = part_or_none n u d "days" words.1 (in_more_bits d h.0) month day (in_days n d) (rw (h.0) refl) (rw (g.0, h.0) refl) (rw (+ℤ_idr m, +ℤ_idl d) refl)
    z (omega arith) (λ t. rw (t) refl) in
    meant n u (part_or_none n u m "months" words.0 (in_more_bits m g.0) zeros month (in_months n m) (rw (g.0) refl) (rw (g.0) refl) (rw (+ℤ_idl m) refl)
    y (omega arith) (λ t. rw (t) refl))

-- so it is read back, whatever the default unit
pub reads_back : (n : ℕ) (u : IntervalUnit) (c : Counts) → fits c ≡ true → month_day_nano n u (interval_text c) ≡ accepted c
reads_back n u c f = (meaning n u (interval_text c) (accepted c)).0 (means n u c f)

-- and no other interval has it
pub one_text : (c e : Counts) → fits c ≡ true → fits e ≡ true → interval_text c ≡ interval_text e → c ≡ e
one_text c e f g t =
    let r : accepted c ≡ accepted e = sym (reads_back 0 Month c f) ∙ rw (t) (reads_back 0 Month e g) in
    cc
