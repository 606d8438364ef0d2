-- What a reviewer must believe: what a timestamp column reads. No definition is a private helper's alone.
pub mod Answer
