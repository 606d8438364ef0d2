-- Laws that belong to no one function.
pub mod Undo
pub mod Standard
