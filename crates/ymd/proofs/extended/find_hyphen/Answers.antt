-- `ymd::extended::find_hyphen` meets its contract: it is the library's `position`. Assumes nothing.
use Rattle.std.proofs.Common.{◌≡◌, ℕ, suc, ◌+◌, refl, arith, List, eqb, rules}
use borrow.Author.Tests.{tests}
use Rattle.std.proofs.lemmas.Iterator.{YieldsList-from_slice}
use Rattle.std.proofs.lemmas.Iterator.Search.{position_from_yields_List}
use Rattle.std.proofs.lemmas.List.Recursion.{is_position_or_len}
use Rattle.std.specs.List.{position_or_len}
use Rattle.ymd.specs.Forms.{to_hyphen}
use Rattle.ymd.proofs.extended.find_hyphen.Goals as goal

is_position : (t : List ℕ) → to_hyphen t ≡ position_or_len (λ (b : ℕ). eqb b 0x2D) t
unfolding to_hyphen
is_position = is_position_or_len to_hyphen (λ (b : ℕ). eqb b 0x2D) refl (λ x xs. let e : suc (to_hyphen xs) ≡ 1 + to_hyphen xs = omega arith in rw e)

pub returns : goal.returns
returns c = rw (is_position c.args.s.now)
    (position_from_yields_List (λ (b : ℕ). eqb b 0x2D) _ _ c.position.result c.position.ensures.ran (YieldsList-from_slice c.args.s.now cc) (λ x b q k. search (rules, tests)))
