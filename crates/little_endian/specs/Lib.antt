-- What a reviewer must believe: which bytes hold a number of a width, as a relation (Holds) and as a computation that is proved equal (Bytes).
-- No definition is a private helper's alone.
pub mod Holds
pub mod Bytes
