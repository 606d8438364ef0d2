-- What a reviewer must believe: UTF-8, and texts in quotes. No definition is a private helper's alone.
pub mod Utf8
pub mod Quoted
