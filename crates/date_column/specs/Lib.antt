-- What a reviewer must believe: what the two date columns read. No definition is a private helper's alone.
pub mod Answer
