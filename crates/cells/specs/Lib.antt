-- What a reviewer must believe: what a C caller finds after a call. No definition is a private helper's alone.
pub mod Cells
