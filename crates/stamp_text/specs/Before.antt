-- What a stamp read as before offsets were read (document 02, No. 6): bytes behind the time that are no single final z or Z were refused
-- with 5. Theorems alone cite it. Assumes nothing.
use Rattle.std.specs.Prelude.{cond, List, ℕ, ℤ}
use Rattle.refusal.specs.Outcome.{Outcome, accepted, refused, in_utf8, and_then}
use Rattle.datetime.specs.Moment.{Moment, moment, instant}
use Rattle.stamp_text.specs.Answer.{day_of, Timed, is_ending, on_date, in_nanos}

abbrev pub ended : ℤ → Timed → Outcome Moment
ended z x = cond (is_ending x.tail) (accepted (moment z x.time)) (refused 5)

abbrev pub datetime_before : List ℕ → Outcome Moment
datetime_before t = in_utf8 t (on_date ended t (day_of t))

abbrev pub stamp_before : List ℕ → Outcome ℤ
stamp_before t = and_then (datetime_before t) (λ m. in_nanos (instant m))
