-- What a reviewer must believe: what a column reads and why it refuses, as a computation and as relations. No definition is a private
-- helper's alone.
pub mod Columns
pub mod Meaning
