-- The texts of the keypad test: document 02, No. 9, "all interval texts of one, two or three components, each a digit 0 to 9 glued to one of
-- c, dec, y, mon, w, d, h, m, s, ms, us, nanosecond, no unit twice, single spaces between". Assumes nothing.
use Rattle.std.specs.Prelude.{◌≡◌, List, [], ◌∷◌, ◌++◌, ℕ, ◌+◌, ◌≤◌, length}
use Rattle.utf8.specs.Quoted.{bytes}
use Rattle.unit.specs.declared.IntervalUnit.{IntervalUnit}
use Rattle.unit.specs.declared.IntervalUnit.TheVariants.{Century, Decade, Year, Month, Week, Day, Hour, Minute, Second, Millisecond, Microsecond, Nanosecond}

-- "one of c, dec, y, mon, w, d, h, m, s, ms, us, nanosecond"
unfoldable pub word : IntervalUnit → List ℕ
word Century = bytes "c"
word Decade = bytes "dec"
word Year = bytes "y"
word Month = bytes "mon"
word Week = bytes "w"
word Day = bytes "d"
word Hour = bytes "h"
word Minute = bytes "m"
word Second = bytes "s"
word Millisecond = bytes "ms"
word Microsecond = bytes "us"
word Nanosecond = bytes "nanosecond"

-- a component: its digit and its unit
pub record Component : Type 0 where
  pub digit : ℕ
  pub unit : IntervalUnit

-- one of them
abbrev pub component : ℕ → IntervalUnit → Component
component d u = record { digit = d; unit = u }

-- its text: "a digit 0 to 9 glued to" its unit's word
pub data Glued : List ℕ → Component → Type 0 where
  glued : {d : ℕ} {u : IntervalUnit} → d ≤ 9 → Glued ((0x30 + d) ∷ word u) (component d u)

-- the text of components, one or more: "single spaces between"
pub data Joined : List ℕ → List Component → Type 0 where
  one : {t : List ℕ} {c : Component} → Glued t c → Joined t (c ∷ [])
  more : {t r : List ℕ} {c : Component} {l : List Component} → Glued t c → Joined r l → Joined (t ++ (0x20 ∷ r)) (c ∷ l)

-- none of the components has the unit
pub data Without (u : IntervalUnit) : List Component → Type 0 where
  nowhere : Without u []
  not_here : {c : Component} {l : List Component} → (u ≡ c.unit → ⊥) → Without u l → Without u (c ∷ l)

-- "no unit twice": none of the components behind one has its unit
pub data Once : List Component → Type 0 where
  no_component : Once []
  one_more : {c : Component} {l : List Component} → Without c.unit l → Once l → Once (c ∷ l)

-- a text of the set
pub record KeypadText (t : List ℕ) : Type 0 where
  pub components : List Component
  pub joined : Joined t components
  pub few : length components ≤ 3
  pub once : Once components
