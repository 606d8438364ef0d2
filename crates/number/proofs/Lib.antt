-- Laws that belong to no one function.
pub mod Zed
pub mod Ranges
pub mod Sizes
pub mod Reading
pub mod Agreement
