-- What the contracts of `clock` cite, all of it to be believed: the grammar of fields and fractions, times of day, and what the answers say.
-- Second 60, with 59 in its place, is cited by theorems alone.
pub mod Grammar
pub mod Clock
pub mod Second60
