-- The order of the keypad texts: document 02, No. 9, "fewer components first, then component by component from the left, each by digit, then
-- by unit in that order", which is that of the units from century to nanosecond. Assumes nothing.
use Rattle.std.specs.Prelude.{◌≡◌, List, ◌∷◌, ℕ, ◌<◌, length}
use Rattle.unit.specs.Units.{rank}
use Rattle.keypad.specs.Texts.{Component, Joined}

-- one component before another: "by digit, then by unit"
pub data Sooner (c e : Component) : Type 0 where
  by_digit : c.digit < e.digit → Sooner c e
  by_unit : c.digit ≡ e.digit → rank c.unit < rank e.unit → Sooner c e

-- components before as many others: "component by component from the left"
pub data FromLeft : List Component → List Component → Type 0 where
  by_this : {c e : Component} {l m : List Component} → Sooner c e → length l ≡ length m → FromLeft (c ∷ l) (e ∷ m)
  by_next : {c : Component} {l m : List Component} → FromLeft l m → FromLeft (c ∷ l) (c ∷ m)

-- components before others: "fewer components first"
pub data Earlier (l m : List Component) : Type 0 where
  fewer : length l < length m → Earlier l m
  as_many : FromLeft l m → Earlier l m

-- one text before another
pub data Before (t s : List ℕ) : Type 0 where
  before : {l m : List Component} → Joined t l → Joined s m → Earlier l m → Before t s
