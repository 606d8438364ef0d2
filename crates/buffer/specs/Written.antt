-- What a printing answers (document 02, No. 4: "a buffer that is too short gives 14 and is not written to; in every printing, bytes past the
-- text are kept"). Assumes nothing.
use Rattle.std.specs.Prelude.{◌≡◌, cond, List, ◌++◌, ℕ, leb, length, drop}
use Rattle.refusal.specs.Outcome.{Outcome, accepted, refused}

-- a text in a buffer with room for so many bytes: 14 where it is longer; a refusal stands
abbrev pub in_room : ℕ → Outcome (List ℕ) → Outcome (List ℕ)
in_room room (accepted w) = cond (leb (length w) room) (accepted w) (refused 14)
in_room room (refused n) = refused n

-- how many bytes are written
abbrev pub length_of : Outcome (List ℕ) → Outcome ℕ
length_of (accepted w) = accepted (length w)
length_of (refused n) = refused n

-- the buffer afterwards: the text, and behind it what was there; untouched where there is none
abbrev pub left_in : Outcome (List ℕ) → List ℕ → List ℕ
left_in (accepted w) before = w ++ drop (length w) before
left_in (refused n) before = before

-- a text is written into a buffer and the rest kept, or the buffer is untouched: what is answered, and the buffer before and after
pub record Written (text : Outcome (List ℕ)) (said : Outcome ℕ) (before after : List ℕ) : Type 0 where
  pub says : said ≡ length_of (in_room (length before) text)
  pub leaves : after ≡ left_in (in_room (length before) text) before
