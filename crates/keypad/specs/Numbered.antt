-- Which number a keypad text has: document 02, No. 9, "the caller asks for text number k from 0". Text 0 is the first, and text k + 1 the next
-- behind text k. Answer.antt computes the text of a number, and the theorems `Rattle.keypad.proofs.Agreement.agrees` and `answers` say
-- that it is this one. Assumes nothing.
use Rattle.std.specs.Prelude.{cond, List, ℕ, zero, suc, ltb}
use Rattle.refusal.specs.Outcome.{Outcome, accepted, refused}
use Rattle.keypad.specs.Texts.{KeypadText}
use Rattle.keypad.specs.Order.{Before}

-- a number and its text
pub data Numbered : ℕ → List ℕ → Type 0 where
  -- none is before it
  first : {t : List ℕ} → KeypadText t → ((s : List ℕ) → KeypadText s → Before s t → ⊥) → Numbered zero t
  -- none is between it and text k
  next : {k : ℕ} {t s : List ℕ} → Numbered k t → KeypadText s → Before t s → ((r : List ℕ) → KeypadText r → Before t r → Before r s → ⊥)
      → Numbered (suc k) s

-- what a number answers: its text, or 17 where there is none
pub data Answers (k : ℕ) : Outcome (List ℕ) → Type 0 where
  text : {t : List ℕ} → Numbered k t → Answers k (accepted t)
  no_text : ((t : List ℕ) → Numbered k t → ⊥) → Answers k (refused 17)

-- how many components text k has: "there are 120, 13,200 and 1,320,000" of one, two and three (`Rattle.keypad.proofs.Agreement.components_are`)
unfoldable pub how_many : ℕ → ℕ
how_many k = cond (ltb k 120) 1 (cond (ltb k 13_320) 2 3)
