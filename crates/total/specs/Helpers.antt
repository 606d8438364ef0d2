-- What the functions behind the reader find on the way: its contract names none of it. Assumes nothing.
use Rattle.std.specs.Prelude.{◌≡◌, Bool, true, false, cond, ◌&&◌, ℕ, ◌*◌, ◌^◌, ◌≤◌, ◌<◌, Option, None, Some, option_map, Result, Ok, Err}
use Rattle.amount.specs.Grammar.{precision}
use Rattle.rule.specs.Contribution.{Counts, fits, plus}
use Rattle.total.specs.Read.{counts_of}
use Rattle.total.specs.declared.Interval.{Interval}

-- the counts that fit, or none
abbrev pub sum_of : Option Interval → Option Counts
sum_of = option_map counts_of

-- the running totals that fit, or none
abbrev pub totals_of : Result Interval ℕ → Option Counts
totals_of (Ok i) = Some (counts_of i)
totals_of (Err p) = None

-- where they first did not
abbrev pub unfit_of : Result Interval ℕ → Option ℕ
unfit_of (Ok i) = None
unfit_of (Err p) = Some p

-- there is a place
unfoldable pub came : Option ℕ → Bool
came None = false
came (Some p) = true

-- the factor k of a fraction over ten to the limit is a over c, with no power of ten in common
pub record Ratio (k a c : ℕ) : Type 0 where
  pub factor_fits : a ≤ 6048
  pub divides : 0 < c
  pub divisor_fits : c ≤ 10 ^ precision
  pub same : k * c ≡ a * 10 ^ precision

-- counts, where they fit
unfoldable pub fitting : Counts → Option Counts
fitting c = cond (fits c) (Some c) None

-- the totals c with a contribution k, where it fits and they do
unfoldable pub added : Counts → Counts → Option Counts
added c k = cond (fits k && fits (plus c k)) (Some (plus c k)) None

-- the same from totals that may not have fitted
unfoldable pub on_added : Option Counts → Counts → Option Counts
on_added None k = None
on_added (Some c) k = added c k

-- the place at, where the totals with a contribution k no longer fit
unfoldable pub unfit_with : Option Counts → Counts → ℕ → Option ℕ
unfit_with None k at = None
unfit_with (Some c) k at = cond (fits k && fits (plus c k)) None (Some at)
