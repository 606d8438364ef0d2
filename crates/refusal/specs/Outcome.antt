-- The answer of a reader, in which every definition of the project is given: a value, or one number of document 01's list,
-- "Refusals, in checking order". Assumes nothing.
use Rattle.std.specs.Prelude.{cond, List, ℕ, Result, Ok, Err}
use Rattle.utf8.specs.Utf8.{utf8}
use Rattle.refusal.specs.declared.Refusal.{Refusal}
use Rattle.refusal.specs.declared.Refusal.TheVariants.{NotUtf8, Date, Separator, Time, Tail, Offset, Range, TimeOfDay, Interval, RepeatedUnit, Overflow, Narrowed, SiteStamp, Column, Buffer, Records, Keypad}

-- a value and nothing else, or a refusal's number and nothing else
pub data Outcome (A : Type 0) : Type 0 where
  accepted : A → Outcome A
  refused : ℕ → Outcome A

-- document 01's number of each refusal of a text, and document 02's (15: No. 6) where it is checked; behind them document 02's of a whole call
-- (13: No. 1; 14: No. 4; 16: No. 8; 17: No. 9)
abbrev pub number_of : Refusal → ℕ
number_of NotUtf8 = 1
number_of Date = 2
number_of Separator = 3
number_of Time = 4
number_of Tail = 5
number_of Offset = 15
number_of Range = 6
number_of TimeOfDay = 7
number_of Interval = 8
number_of RepeatedUnit = 9
number_of Overflow = 10
number_of Narrowed = 11
number_of SiteStamp = 12
number_of Column = 13
number_of Buffer = 14
number_of Records = 16
number_of Keypad = 17

-- a refusal as an outcome
abbrev pub because : {A : Type 0} → Refusal → Outcome A
because why = refused (number_of why)

-- 1, that the bytes are no UTF-8, comes before every other refusal of a text
abbrev pub number_in : List ℕ → ℕ → ℕ
number_in t n = cond (utf8 t) n 1

abbrev pub in_utf8 : {A : Type 0} → List ℕ → Outcome A → Outcome A
in_utf8 t o = cond (utf8 t) o (refused 1)

-- go on with an accepted value; a refusal stands
abbrev pub and_then : {A B : Type 0} → Outcome A → (A → Outcome B) → Outcome B
and_then (accepted v) next = next v
and_then (refused n) next = refused n

-- what a reader's answer says
abbrev pub outcome : {A : Type 0} → Result A Refusal → Outcome A
outcome (Ok v) = accepted v
outcome (Err why) = because why
