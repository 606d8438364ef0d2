-- What the contracts of `total` cite. To be believed: what the answers say.
pub mod Read
-- What the functions behind the reader find; nothing above rests on it.
pub mod Helpers
