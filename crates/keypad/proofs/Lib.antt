-- Laws that belong to no one function.
pub mod Takes
pub mod Drawn
pub mod Joins
pub mod Ordered
pub mod Agreement
pub mod Accepting
pub mod Longest
pub mod Turning
pub mod Readings
