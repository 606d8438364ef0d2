-- Records, what a reviewer must believe: which bytes are a record, and which new record an old one goes to (Records); what slices of them are
-- converted to, as a relation (Slices) and as a computation that is proved equal (Answer); what the code's answers say (Read).
pub mod Records
pub mod Slices
pub mod Answer
pub mod Read
-- What the loops over records find; no contract of a public function cites it.
pub mod Helpers
