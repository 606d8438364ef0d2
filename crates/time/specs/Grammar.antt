-- The texts of times of day, as relations (document 01, "Time of day"; ISO 8601's hh:mm and hh:mm:ss, and the twelve-hour clock): one or
-- two hour digits, a colon, two minute digits, then perhaps a colon and two second digits, and only after these perhaps a point and one or
-- more digits; then perhaps a space and AM or PM in any case. And why any other text is refused. Assumes nothing.
use Rattle.std.specs.Prelude.{◌≡◌, true, List, [], ◌∷◌, ◌++◌, ℕ, ◌+◌, ◌%◌, ◌≤◌, ℤ, pos}
use Rattle.text.specs.Digits.{value}
use Rattle.utf8.specs.Utf8.{Utf8}
use Rattle.clock.specs.Clock.{Clock, clock, in_range, since_midnight}
use Rattle.clock.specs.Grammar.{Figures, Secfrac}

-- one or two digits
pub data Hour : List ℕ → Type 0 where
  one : {t : List ℕ} → Figures 1 t → Hour t
  two : {t : List ℕ} → Figures 2 t → Hour t

-- a time of day without AM or PM
pub data Written : List ℕ → Clock → Type 0 where
  minutes : (h m : List ℕ) → Hour h → Figures 2 m → Written (h ++ (0x3A ∷ m)) (clock (value 0 h) (value 0 m) 0 [])
  seconds : (h m s x f : List ℕ) → Hour h → Figures 2 m → Figures 2 s → Secfrac x f
      → Written (h ++ (0x3A ∷ (m ++ (0x3A ∷ (s ++ x))))) (clock (value 0 h) (value 0 m) (value 0 s) f)

-- a letter in either case
pub data Letter (capital small : ℕ) : ℕ → Type 0 where
  upper : Letter capital small capital
  lower : Letter capital small small

-- a time of day: of twenty-four hours, or of twelve with AM or PM, where hour 12 counts as 0
pub data TimeOfDay : List ℕ → Clock → Type 0 where
  full : {t : List ℕ} {c : Clock} → Written t c → TimeOfDay t c
  am : {t : List ℕ} {h m s : ℕ} {f : List ℕ} (a b : ℕ) → Written t (clock h m s f) → 1 ≤ h → h ≤ 12 → Letter 0x41 0x61 a → Letter 0x4D 0x6D b
      → TimeOfDay (t ++ (0x20 ∷ a ∷ b ∷ [])) (clock (h % 12) m s f)
  pm : {t : List ℕ} {h m s : ℕ} {f : List ℕ} (a b : ℕ) → Written t (clock h m s f) → 1 ≤ h → h ≤ 12 → Letter 0x50 0x70 a → Letter 0x4D 0x6D b
      → TimeOfDay (t ++ (0x20 ∷ a ∷ b ∷ [])) (clock (h % 12 + 12) m s f)

-- a text and the nanoseconds since midnight that it is read as
pub data Reads : List ℕ → ℤ → Type 0 where
  reads : {t : List ℕ} {c : Clock} → TimeOfDay t c → in_range c.hour c.minute c.second ≡ true → Reads t (pos (since_midnight c))

-- a text and the number of its refusal
pub data Refuses : List ℕ → ℕ → Type 0 where
  not_utf8 : {t : List ℕ} → (Utf8 t → ⊥) → Refuses t 1
  no_time : {t : List ℕ} → Utf8 t → ((z : ℤ) → Reads t z → ⊥) → Refuses t 7
