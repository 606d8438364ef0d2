-- Laws that belong to no one function.
pub mod WhiteAgrees
pub mod Characters
