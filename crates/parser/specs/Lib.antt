-- What the contracts of `parser` cite, besides `stamp_text`; all of it to be believed: what the answers say.
pub mod Read
