-- How long a listing can get: a line has at most 51 bytes and as many as the limit of fraction digits, and there are at most twelve. Assumes
-- nothing.
use mathlib.Core.Path.{◌≡◌, refl, sym}
use mathlib.Core.Bool.{true}
use mathlib.Core.List.{List, [], ◌∷◌, ◌++◌}
use Rattle.std.specs.Prelude.{Some}
use Prim.Native.Nat.{ℕ, ◌+◌, ◌*◌, ◌≤◌, ◌<◌}
use native.Mathlib.Nat.{mul-le-mul_right}
use native.Mathlib.Omega.{arith}
use lib.ListN.{length}
use Rattle.std.proofs.lemmas.List.{length-append}
use Rattle.text.proofs.Bools.{fails}
use Rattle.utf8.specs.Quoted.{bytes}
use Rattle.number.specs.Widths.{in_signed}
use Rattle.buffer.specs.Buffer.{Put}
use Rattle.buffer.specs.Written.{Written}
use Rattle.buffer.proofs.Puts.{written, too_long}
use Rattle.amount.specs.Grammar.{precision, Value, Amount, whole, decimal, fraction, whole_fits}
use Rattle.amount.proofs.AmountLaws.{amount_value, frac_small}
use Rattle.decimal.specs.Decimal.{signed_text}
use Rattle.decimal.proofs.Recursion.{signed_most, in_width}
use Rattle.refusal.specs.Outcome.{accepted, refused}
use Rattle.unit.specs.declared.IntervalUnit.{IntervalUnit}
use Rattle.unit.specs.declared.IntervalUnit.TheVariants.{Century, Decade, Year, Month, Week, Day, Hour, Minute, Second, Millisecond, Microsecond, Nanosecond}
use Rattle.component.specs.Grammar.{Component}
use Rattle.component.specs.Division.{divide}
use Rattle.component.specs.Spelled.{unit_for}
use Rattle.component.proofs.Agreement.{agrees as division}
use Rattle.rule.specs.Contribution.{Counts}
use Rattle.rule.specs.Answer.{month_day_nano, twice}
use Rattle.rule.proofs.Demand3.{Amounts, no_more, one_more, amounts, Adds, demand3, repeats}
use Rattle.listing.specs.Names.{name}
use Rattle.listing.specs.Lines.{line, lines, lines_if, listing}
use Rattle.listing.proofs.Twelve.{at_most_twelve}

whole_small : {n : ℕ} {a : List ℕ} {v : Value} → Amount n a v → in_signed 63 v.integer ≡ true
unfolding whole_fits
whole_small (whole s w) = w.fitting
whole_small (decimal s w f) = w.fitting
whole_small (fraction s f) = refl

short_name : (u : IntervalUnit) → length (name u) ≤ 11
unfolding name
short_name Century = omega arith
short_name Decade = omega arith
short_name Year = omega arith
short_name Month = omega arith
short_name Week = omega arith
short_name Day = omega arith
short_name Hour = omega arith
short_name Minute = omega arith
short_name Second = omega arith
short_name Millisecond = omega arith
short_name Microsecond = omega arith
short_name Nanosecond = omega arith

pub short_line : {n : ℕ} {a : List ℕ} {v : Value} (u : IntervalUnit) → 1 ≤ n → Amount n a v → length (line u v) ≤ 51 + n
unfolding line
short_line {n} {a} {v} u h m =
    let i = in_width 63 19 v.integer (omega arith) (omega arith) (whole_small m) in
    let f = signed_most v.frac n h (frac_small m) in
    omega (
      arith,
      i,
      f,
      short_name u,
      length-append (name u) (bytes " whole=" ++ (signed_text v.integer ++ (bytes " frac=" ++ (signed_text v.frac ++ (0x0A ∷ []))))),
      length-append (signed_text v.integer) (bytes " frac=" ++ (signed_text v.frac ++ (0x0A ∷ []))),
      length-append (signed_text v.frac) (0x0A ∷ []),
    )

short_lines : (n : ℕ) (u : IntervalUnit) {d : List Component} → 1 ≤ n → Amounts n d → length (lines n u d) ≤ length d * (51 + n)
unfolding lines
short_lines n u h no_more = omega arith
short_lines n u h (one_more {p} {d} {v} a m) =
    rw (amount_value a) (omega (arith, length-append (line (unit_for u p) v) (lines n u d), short_line (unit_for u p) h a, short_lines n u h m))

-- the division of an accepted text
pub record Listed (n : ℕ) (u : IntervalUnit) (t : List ℕ) : Type 0 where
  pub components : List Component
  pub divided : divide n t ≡ Some components
  pub listing_is : listing n u t ≡ accepted (lines n u components)
  pub longest : length (lines n u components) ≤ 12 * (51 + n)

pub of_accepted : (n : ℕ) (u : IntervalUnit) (t : List ℕ) {e : Counts} → 1 ≤ n → month_day_nano n u t ≡ accepted e → Listed n u t
unfolding listing lines_if
of_accepted n u t {e} h m =
    let a : Adds n u t e = ((demand3 n u t).acceptance e).0 m in
    let p : divide n t ≡ Some a.division = (division n t a.division).0 a.divides in
    let k = at_most_twelve u a.division (fails (twice u a.division) (repeats u a.division).1 a.once_each) in
    let l = short_lines n u h (amounts a.divides) in
    record { components = a.division; divided = p; listing_is = rw (m, p) refl; longest = omega (arith, l, mul-le-mul_right (51 + n) k) }

pub of_refused : (n : ℕ) (u : IntervalUnit) (t : List ℕ) {k : ℕ} → month_day_nano n u t ≡ refused k → listing n u t ≡ refused k
unfolding listing
of_refused n u t h = rw (h) refl

-- ---- what `list_interval` answers

module _ (u : IntervalUnit) (t a : List ℕ) where
  pub refused_one : {k : ℕ} → refused k ≡ month_day_nano precision u t → Written (listing precision u t) (refused k) a a
  refused_one {k} h = let e : listing precision u t ≡ refused k = of_refused precision u t (sym h) in rw (e) (record { says = refl; leaves = refl })

  module _ {e : Counts} (h : accepted e ≡ month_day_nano precision u t) {c : List ℕ} {m : ℕ}
      (counted : (d : List Component) → divide precision t ≡ Some d → Put 0 (lines precision u d) [] c m) where
    pub no_room : length a < m → Written (listing precision u t) (refused 14) a a
    no_room l = let k = of_accepted precision u t (omega arith) (sym h) in rw (k.listing_is) (too_long (counted k.components k.divided) l)

    pub written_out : {b : List ℕ} {n : ℕ} → m ≤ length a → ((d : List Component) → divide precision t ≡ Some d → Put 0 (lines precision u d) a b n)
        → Written (listing precision u t) (accepted n) a b
    written_out l f =
        let k = of_accepted precision u t (omega arith) (sym h) in
        rw (k.listing_is) (written (counted k.components k.divided) (f k.components k.divided) (omega (arith, k.longest)) l)
