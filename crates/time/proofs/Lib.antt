-- Laws that belong to no one function.
pub mod Agreement
pub mod Bounds
pub mod Fractions
pub mod Marks
