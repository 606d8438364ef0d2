-- Texts of site stamps, computed over the definition that the contract cites: the value, and the mark with second 60 alone. Assumes nothing.
use mathlib.Core.Path.{refl}
use mathlib.Core.Bool.{true, false}
use mathlib.Core.List.{List, [], ◌∷◌}
use lib.IntN.{pos}
use Rattle.text.specs.Digits.{digits, value, run}
use Rattle.text.proofs.Table.{Row, row, Readings}
use Rattle.utf8.specs.Quoted.{bytes}
use Rattle.utf8.specs.Utf8.{well_formed}
use Rattle.refusal.specs.Outcome.{Outcome, accepted, refused}
use Rattle.calendar.specs.Calendar.{span, before}
use Rattle.clock.specs.Clock.{nanos_of}
use Rattle.stamp_text.specs.Answer.{day_of, time_of, plain_moment}
use Rattle.site.specs.Site.{marked, is_leap_day, is_site, site_marked}
use Rattle.site.specs.declared.Marked.{Marked}

abbrev rows : List (Row (Outcome Marked))
rows =
    row (site_marked (bytes "2016-12-31T23:59:59Z")) (accepted (marked (pos 1_483_228_799_000_000_000) false)) ∷
    row (site_marked (bytes "2016-12-31T23:59:60Z")) (accepted (marked (pos 1_483_228_800_000_000_000) true)) ∷
    row (site_marked (bytes "2016-12-31T23:59:60.999999999Z")) (accepted (marked (pos 1_483_228_800_999_999_999) true)) ∷
    row (site_marked (bytes "2017-01-01T00:00:00Z")) (accepted (marked (pos 1_483_228_800_000_000_000) false)) ∷
    row (site_marked (bytes "1969-12-31T23:59:60Z")) (accepted (marked (pos 0) true)) ∷
    row (site_marked (bytes "2016-12-31T00:60:60Z")) (refused 4) ∷
    row (site_marked (bytes "2016-12-31T23:59:60z")) (refused 12) ∷
    []

pub readings : Readings rows
unfolding digits value run well_formed span before nanos_of day_of time_of plain_moment is_leap_day is_site
readings = refl
