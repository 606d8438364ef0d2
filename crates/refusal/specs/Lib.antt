-- What a reviewer must believe: document 01's list, what the contracts of every crate answer in, and how a column puts answers together.
-- No definition is a private helper's alone.
pub mod Outcome
pub mod Attempts
