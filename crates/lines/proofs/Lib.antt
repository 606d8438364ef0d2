-- Laws that belong to no one function.
pub mod Escapes
pub mod Taking
