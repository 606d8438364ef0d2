-- Laws that belong to no one function.
pub mod White
pub mod Agreement
pub mod Shift
