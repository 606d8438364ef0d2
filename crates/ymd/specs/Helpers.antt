-- The one or two digits that a text begins with, as a private function finds them. Assumes nothing.
use Rattle.std.specs.Prelude.{cond, List, ℕ, get_or, drop, Option, None, Some}
use Rattle.text.specs.Digits.{is_digit, worth, two_digits, two_at}

-- their number, and what is behind them
abbrev pub one_or_two : List ℕ → Option (ℕ × List ℕ)
one_or_two t = cond (two_digits t 0) (Some (two_at t 0, drop 2 t)) (cond (is_digit (get_or t 0 0)) (Some (worth (get_or t 0 0), drop 1 t)) None)
