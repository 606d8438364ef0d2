-- `ymd::short::no_digits` meets its contract: it is the library's `all`. Assumes nothing.
use Rattle.std.proofs.Common.{◌≡◌, ℕ, suc, ◌<◌, refl, ◌∙◌, List, [], ◌∷◌, get_or, leb, rules}
use borrow.Author.Tests.{tests}
use Rattle.std.proofs.lemmas.Iterator.{YieldsList-from_slice}
use Rattle.std.proofs.lemmas.Iterator.Search.{all_from_yields_List}
use Rattle.std.specs.List.{list_all}
use Rattle.text.specs.Digits.{digit_of}
use Rattle.text.proofs.TwoDigits.{no_digit_test}
use Rattle.clock.specs.Grammar.{no_digits}
use Rattle.ymd.proofs.short.no_digits.Goals as goal

all_none : (t : List ℕ) → ((i : ℕ) → get_or t i 0 < 256) → list_all (λ (b : ℕ). leb 10 (digit_of b)) t ≡ no_digits t
unfolding no_digits
all_none [] f = refl
all_none (b ∷ t) f = rw (no_digit_test b (f 0), all_none t (λ i. f (suc i)))

pub returns : goal.returns
returns c = all_from_yields_List (λ (b : ℕ). leb 10 (digit_of b)) _ _ c.all.result c.all.ensures.ran (YieldsList-from_slice c.args.s.now cc) (λ x b q k. search (rules, tests)) ∙
    all_none c.args.s.now (λ i. (c.type_inv.s i).fits)
