-- Laws that belong to no one function.
pub mod Years
pub mod Starts
pub mod Months
pub mod Dates
pub mod Days
pub mod Readings
pub mod Bounds
