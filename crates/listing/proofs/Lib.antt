-- Laws that belong to no one function.
pub mod Putting
pub mod Ahead
pub mod Twelve
pub mod Agreement
pub mod Longest
pub mod Readings
