-- What a reviewer must believe: digits and trimming. No definition is a private helper's alone.
pub mod Digits
pub mod Trim
