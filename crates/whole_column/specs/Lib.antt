-- Whole columns, all of it to be believed: which texts ends cut out of bytes, and what a column of texts answers, as a relation (Meaning)
-- and as a computation that is proved equal (Answer).
pub mod Answer
pub mod Meaning
