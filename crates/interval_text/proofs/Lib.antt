-- Laws that belong to no one function.
pub mod Spacing
pub mod Longest
pub mod ReadsBack
pub mod Readings
