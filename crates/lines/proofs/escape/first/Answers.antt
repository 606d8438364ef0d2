-- `lines::escape::first` meets its contract: an escape in front, or else the first byte. Assumes nothing.
use Rattle.std.proofs.Common.{◌≡◌, ◌∷◌, ◌+◌, ◌<◌, arith, None, Some, Option, length, drop, MatchOption, ℕ, List, Bor}
use Rattle.std.specs.Option.{unwrap_or}
use Rattle.lines.specs.Escape.{escaped, unescaped}
use Rattle.lines.proofs.Escapes.{as_escaped, as_it_stands}
use Rattle.lines.proofs.escape.first.Goals as goal

in_front : (s : List ℕ) (escape : Option (ℕ × Bor (List ℕ))) (b : ℕ) (t : Bor (List ℕ)) → s ≡ b ∷ t.now
    → MatchOption escape (escaped s ≡ None) (λ x. (escaped s ≡ Some x.0) × (x.1.now ≡ drop 4 s) × (length x.1.now + 4 ≡ length s))
    → (unescaped s ≡ (unwrap_or escape (b, t)).0 ∷ unescaped (unwrap_or escape (b, t)).1.now) × (length (unwrap_or escape (b, t)).1.now < length s)
in_front s (Some x) b t e m = (rw m.1 (as_escaped s x.0 m.0 (omega (arith, m.2))), omega (arith, m.2))
in_front s None b t e m = rw e (as_it_stands b t.now (rw (← e) m), omega arith)

pub returns : goal.returns
returns c = rw c.unwrap_or.ensures (in_front c.args.s.now c.escape.result c.in_ok-byte.field-0-0.now c.in_ok-byte.behind (c.in_ok-byte.ensures.cases.0) c.escape.ensures)
