-- Laws that belong to no one function.
pub mod Agreement
pub mod Steps
pub mod Faults
pub mod Pieces
