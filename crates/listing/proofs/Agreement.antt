-- A text has exactly one listing, and `listing` computes it. Assumes nothing.
use mathlib.Core.Path.{◌≡◌, refl, sym, ap}
use mathlib.Core.Logic.{◌↔◌}
use mathlib.Core.List.{List}
use Prim.Native.Nat.{ℕ}
use Rattle.refusal.specs.Outcome.{Outcome, accepted, refused}
use Rattle.decimal.proofs.Agreement.{agrees as number_text}
use Rattle.amount.specs.Scan.{amount_of}
use Rattle.amount.proofs.AmountLaws.{amount_value}
use Rattle.unit.specs.declared.IntervalUnit.{IntervalUnit}
use Rattle.component.specs.Grammar.{Component}
use Rattle.component.specs.Spelled.{unit_for}
use Rattle.component.proofs.Agreement.{agrees as division}
use Rattle.rule.specs.Contribution.{Counts}
use Rattle.rule.specs.Answer.{month_day_nano}
use Rattle.rule.proofs.Demand3.{Amounts, no_more, one_more, amounts, Adds, demand3}
use Rattle.listing.specs.Listing.{Line, line_of, Lines, no_more as no_line, line_then, Lists, listed, not_accepted}
use Rattle.listing.specs.Lines.{line, lines, lines_if, listing}

module _ (n : ℕ) (u : IntervalUnit) where
  line_is : {c : Component} {w : List ℕ} → Line n u c w → w ≡ line (unit_for u c) (amount_of n c.amount)
  unfolding line
  line_is (line_of {c} {v} a p q) = rw (amount_value a, (number_text v.integer _).0 p, (number_text v.frac _).0 q) refl

  lines_are : {d : List Component} {l : List ℕ} → Lines n u d l → l ≡ lines n u d
  unfolding lines
  lines_are no_line = refl
  lines_are (line_then p q) = rw (line_is p, lines_are q) refl

  lines_related : {d : List Component} → Amounts n d → Lines n u d (lines n u d)
  unfolding lines line
  lines_related no_more = no_line
  lines_related (one_more {p = c} {v = v} a m) = line_then {w = line (unit_for u c) (amount_of n c.amount)} (rw (amount_value a) (line_of {c = c} a ((number_text v.integer _).1 refl) ((number_text v.frac _).1 refl))) (lines_related m)

  module _ (t : List ℕ) where
    computed : {o : Outcome (List ℕ)} → Lists n u t o → listing n u t ≡ o
    unfolding listing lines_if
    computed (listed {e} {d} m p l) = rw (((demand3 n u t).one_answer (accepted e)).0 m, (division n t d).0 p) (ap accepted (sym (lines_are l)))
    computed (not_accepted {k} m) = rw (((demand3 n u t).one_answer (refused k)).0 m) refl

    of_answer : (o : Outcome Counts) → month_day_nano n u t ≡ o → Lists n u t (listing n u t)
    unfolding listing lines_if
    of_answer (accepted e) h =
        let a : Adds n u t e = ((demand3 n u t).acceptance e).0 h in
        rw (h, (division n t a.division).0 a.divides) (listed (((demand3 n u t).one_answer (accepted e)).1 h) a.divides (lines_related (amounts a.divides)))
    of_answer (refused k) h = rw (h) (not_accepted (((demand3 n u t).one_answer (refused k)).1 h))

    -- a listing is the text's exactly where it is the computed one
    pub agrees : (o : Outcome (List ℕ)) → Lists n u t o ↔ (listing n u t ≡ o)
    agrees o = (computed, λ e. rw (e) at (of_answer (month_day_nano n u t) refl))
