-- `lines::input::find` meets its contract: it is the library's `position`. Assumes nothing.
use Rattle.std.proofs.Common.{◌≡◌, ℕ, suc, ◌+◌, ◌≤◌, ◌<◌, refl, sym, arith, List, [], ◌∷◌, eqb, ltb, cond, length, None, Some, MatchOption, rules}
use borrow.Author.Tests.{tests, ltb-true, ltb-false}
use Rattle.text.proofs.Bools.{by_test}
use Rattle.std.proofs.lemmas.Iterator.{YieldsList-from_slice}
use Rattle.std.proofs.lemmas.Iterator.Search.{position_from_yields_List}
use Rattle.std.proofs.lemmas.List.Recursion.{is_position_or_len}
use Rattle.std.specs.List.{position_or_len}
use Rattle.lines.specs.Line.{before}
use Rattle.lines.proofs.input.find.Goals as goal

is_position : (b : ℕ) (t : List ℕ) → position_or_len (λ (x : ℕ). eqb x b) t ≡ before b t
unfolding before
is_position b t = sym (is_position_or_len (before b) (λ (x : ℕ). eqb x b) refl (λ x xs. let e : suc (before b xs) ≡ 1 + before b xs = omega arith in rw e) t)

at_most_all : (b : ℕ) (t : List ℕ) → before b t ≤ length t
unfolding before
at_most_all b [] = omega arith
at_most_all b (x ∷ t) = by_test (eqb x b) (λ e. rw e (omega arith)) (λ e. rw e (omega (arith, at_most_all b t)))

in_cases : (n l : ℕ) → n ≤ l → MatchOption (cond (ltb n l) (Some n) None) (n ≡ l) (λ i. (i ≡ n) × (i < l))
in_cases n l h = by_test (ltb n l) (λ e. rw e (refl, ltb-true n l e)) (λ e. rw e (omega (arith, ltb-false n l e, h)))

pub returns : goal.returns
returns c = let b = c.args.b in
    let s = c.args.s.now in
    rw (position_from_yields_List (λ (x : ℕ). eqb x b) _ _ c.position.result c.position.ensures.ran (YieldsList-from_slice s cc) (λ x y q k. search (rules, tests)), is_position b s)
    (in_cases (before b s) (length s) (at_most_all b s))
