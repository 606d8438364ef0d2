-- A component as the code finds it at a place: an amount, and behind it its unit word, or nothing. Assumes nothing.
use mathlib.Core.Path.{◌≡◌, refl}
use mathlib.Core.Bool.{Bool, false, not, cond}
use mathlib.Core.List.{List}
use Rattle.std.specs.Prelude.{None, Some}
use Prim.Native.Nat.{ℕ, ◌+◌, ◌-◌, ◌≤◌, ◌<◌}
use native.Mathlib.Nat.{add-zero}
use native.Mathlib.Omega.{arith}
use lib.Dec.{eqb}
use lib.ListN.{length, get_or, take, drop}
use lib.Seq.{get_or-drop, drop-drop}
use Rattle.text.proofs.Bools.{by_test}
use Rattle.white.specs.WhiteSpace.{white_len}
use Rattle.unit.specs.Units.{unit_of, or_else, word_len}
use Rattle.unit.specs.Read.{word_end, word_of, Followed}
use Rattle.unit.specs.declared.IntervalUnit.{IntervalUnit}
use Rattle.unit.proofs.Spelling.{spells, spells_none}
use Rattle.unit.proofs.WordLaws.{word_here}
use Rattle.amount.specs.Grammar.{precision}
use Rattle.component.specs.Grammar.{component}
use Rattle.component.specs.Division.{step, bad}
use Rattle.component.specs.Spelled.{spelled, unit_for}
use Rattle.component.specs.Fault.{in_amount, fault}
use Rattle.component.specs.Read.{Holds, LastIs, MoreIs}
use Rattle.amount.specs.Read.{ReadIs, value_of}
use Rattle.amount.specs.Scan.{amount_len}
use Rattle.amount.specs.declared.held.IntervalAmount.{IntervalAmount}
use Rattle.amount.proofs.AmountLaws.{same_sign, frac_small}
use Rattle.component.proofs.Steps.{amount_last, word_bad, unit_last, unit_more}
use Rattle.component.proofs.Faults.{overmeasured, fault_first, fault_unit}

-- the unit of a component with an amount a, spaced or not: the default u where there is no word, else what the word w spells

unit_default : (u : IntervalUnit) (a : List ℕ) (s : Bool) → unit_for u (component a s None) ≡ u
unfolding unit_for spelled
unit_default u a s = refl

unit_spelled : (w : List ℕ) (u : IntervalUnit) (a : List ℕ) (s : Bool) {v : IntervalUnit} → unit_of w ≡ Some v → unit_for u (component a s (Some w)) ≡ v
unfolding unit_for spelled or_else
unit_spelled w u a s e = rw e

-- an amount from at to e
module _ (s : List ℕ) (at : ℕ) (a : IntervalAmount) (e : ℕ) (R : ReadIs precision s at (value_of a) e) where
  -- nothing follows
  pub alone : length s ≤ e → LastIs precision s at a None
  unfolding or_else
  alone h =
      record {
        this = component (take (e - at) (drop at s)) false None;
        stepped = amount_last precision s at e R.end_is R.further h;
        holds = record { amount_is = R.says; same_sign = same_sign R.says; small = frac_small R.says; unit_is = λ u. unit_default u (take (e - at) (drop at s)) false };
      }

  -- white space of w bytes from e to f, perhaps none, and a word from f on
  module _ (l : e < length s) (w f : ℕ) (W : w ≡ white_len (drop e s)) (F : f ≡ e + w) where
    ends_there : word_end s f ≡ f + word_len (drop f s)
    unfolding word_end
    ends_there = refl

    -- the word spells no unit
    pub no_unit_here : unit_of (word_of s f) ≡ None → step precision (drop at s) ≡ bad
    no_unit_here h =
        word_bad precision s at e R.end_is R.further w f (word_end s f) l W F ends_there (spells_none (take (word_end s f - f) (drop f s)) (word_here s f h))

    -- and then the amount piece goes on behind the amount, or the word is the piece that is none
    pub no_unit_place : cond (in_amount (get_or s e 0)) at f ≡ at + fault precision (drop at s)
    no_unit_place =
        let E = R.end_is in
        let d : drop (amount_len precision (drop at s)) (drop at s) ≡ drop e s = rw E (drop-drop (amount_len precision (drop at s)) at s) in
        let b : get_or (drop (amount_len precision (drop at s)) (drop at s)) 0 0 ≡ get_or s e 0 = rw (d, get_or-drop e s 0 0, add-zero) in
        by_test (in_amount (get_or s e 0))
        (λ h. rw h (omega (arith, fault_first precision (drop at s) (overmeasured precision (drop at s) (rw b h)))))
        (λ h. rw h (omega (arith, W, F, rw d at (fault_unit precision (drop at s) (omega (arith, R.further)) (rw b h)))))

    -- the word spells the unit u
    module _ {u : IntervalUnit} (U : unit_of (word_of s f) ≡ Some u) where
      held : Holds precision (component (take (e - at) (drop at s)) (not (eqb w 0)) (Some (take (word_end s f - f) (drop f s)))) a (Some u)
      unfolding or_else
      held = record { amount_is = R.says; same_sign = same_sign R.says; small = frac_small R.says; unit_is = λ v. unit_spelled (take (word_end s f - f) (drop f s)) v (take (e - at) (drop at s)) (not (eqb w 0)) (word_here s f U) }

      pub unit_ends : length s ≤ word_end s f → LastIs precision s at a (Some u)
      unit_ends h =
          record {
            this = component (take (e - at) (drop at s)) (not (eqb w 0)) (Some (take (word_end s f - f) (drop f s)));
            stepped = unit_last precision s at e R.end_is R.further w f (word_end s f) l W F ends_there (spells (take (word_end s f - f) (drop f s)) (word_here s f U)) h;
            holds = held;
          }

    pub unit_goes_on : {u : IntervalUnit} {x : ℕ} → Followed s f u x → MoreIs precision s at a u x
    unit_goes_on {x = x} U =
        let q : word_end s f + white_len (drop (word_end s f) s) ≡ x = omega (arith, U.next_is) in
        record {
          this = component (take (e - at) (drop at s)) (not (eqb w 0)) (Some (take (word_end s f - f) (drop f s)));
          stepped = rw q at (unit_more precision s at e R.end_is R.further w f (word_end s f) l W F ends_there (spells (take (word_end s f - f) (drop f s)) (word_here s f U.spelled)) (omega (arith, U.further, U.inside)) (white_len (drop (word_end s f) s)) refl);
          further = omega (arith, R.further, U.further, ends_there);
          inside = U.inside;
          holds = held U.spelled;
        }
