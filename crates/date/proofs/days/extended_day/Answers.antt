-- `date::days::extended_day` meets its contract: the day with the numbers that were read. Assumes nothing.
use mathlib.Core.Path.{ap, ◌∙◌}
use mir.Syntax.{w32}
use mir.Facts.{to_z-of_z}
use borrow.Author.Rules.{rules}
use Rattle.date.specs.Answer.{day_with}
use Rattle.date.proofs.days.extended_day.Goals as goal

pub returns : goal.returns
returns c = c.days_from_ymd.ensures ∙ rw (to_z-of_z {w = w32} {z = c.in_ok-x.x.year} (record { sfits = (search rules) })) (ap day_with c.in_ok-x.ensures)
