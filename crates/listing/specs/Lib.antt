-- What the contracts of `listing` cite, all of it to be believed: the names of units, a text's listing as a relation (Listing) and as a
-- computation that is proved equal (Lines), and what the answer says.
pub mod Names
pub mod Listing
pub mod Lines
pub mod Read
