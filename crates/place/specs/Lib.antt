-- What the contracts of `place` and of the interval readers cite, all of it to be believed: the pieces of a text, the place of a refusal as a
-- relation (Place) and as a computation that is proved equal (Where), and what a refusal with its place says.
pub mod Pieces
pub mod Place
pub mod Where
pub mod Read
