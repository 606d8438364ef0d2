-- `ymd::parse_extended_ymd` meets its contract, by the law of the parts that the first hyphen makes. Assumes nothing.
use mathlib.Core.Path.{◌∙◌}
use Prim.Native.Nat.{◌+◌}
use borrow.Author.Rules.{rules}
use mir.Syntax.{w32}
use mir.Facts.{to_z-of_z}
use Rattle.text.proofs.Parts.{rest}
use Rattle.ymd.proofs.Hyphens.{in_parts}
use Rattle.ymd.proofs.parse_extended_ymd.Goals as goal

pub returns : goal.returns
returns c = let s = c.args.s.now in
    rw (rest s (c.in_ok-hyphen.hyphen + 2), to_z-of_z {w = w32} {z = c.in_ok-year.year} (record { sfits = (search rules) })) at c.month_day.ensures ∙
    in_parts s (rw (c.in_ok-get.ensures.lookup.0.2, rest s 1) at c.in_ok-hyphen.ensures) c.if-hyphen-lt4.false c.in_ok-year.ensures
