-- Laws that belong to no one function.
pub mod Hyphens
pub mod Shapes
