-- What the contracts of `unit` cite. A reviewer must believe the units, their spellings and their numbers, and what the answers say.
pub mod Units
pub mod Read
-- What only names the finds of private functions: the letters of a word, packed as a number.
pub mod Keys
