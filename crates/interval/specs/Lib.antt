-- What the contracts of `interval` cite. To be believed: what the readers' answers say (what they mean is in `rule`).
pub mod Read
-- What the functions behind the readers find; nothing above rests on it.
pub mod Helpers
