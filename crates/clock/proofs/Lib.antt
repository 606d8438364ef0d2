-- Laws that belong to no one function.
pub mod Figures
pub mod Nanos
pub mod Bounds
pub mod Held
