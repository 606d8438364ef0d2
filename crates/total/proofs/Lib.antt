-- Laws that belong to no one function.
pub mod Adding
pub mod Ahead
pub mod Folding
