-- What the answer of `list_interval` says: how many bytes were written; or a refusal, the reader's with its place where it has one, or 14. Assumes
-- nothing.
use Rattle.std.specs.Prelude.{Option, None, ℕ, Result, Ok, Err}
use Rattle.refusal.specs.Outcome.{Outcome, accepted, because}
use Rattle.refusal.specs.declared.Refusal.TheVariants.{Buffer as TooShort}
use Rattle.place.specs.Read.{place_in, because_of}
use Rattle.listing.specs.declared.ListRefusal.{ListRefusal}
use Rattle.listing.specs.declared.ListRefusal.TheVariants.{Text, Buffer}

-- how many bytes, or a refusal
abbrev pub length_said : Result ℕ ListRefusal → Outcome ℕ
length_said (Ok n) = accepted n
length_said (Err (Text why)) = because_of why
length_said (Err Buffer) = because TooShort

-- the place of the refusal, if it has one
abbrev pub place_told : Result ℕ ListRefusal → Option ℕ
place_told (Ok n) = None
place_told (Err (Text why)) = place_in why
place_told (Err Buffer) = None
