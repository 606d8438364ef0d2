-- What a reviewer must believe: white space. No definition is a private helper's alone.
pub mod WhiteSpace
