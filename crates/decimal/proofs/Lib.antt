-- Laws that belong to no one function.
pub mod Recursion
pub mod Agreement
