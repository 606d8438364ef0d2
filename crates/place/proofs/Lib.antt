-- Laws that belong to no one function.
pub mod Cutting
pub mod Turning
pub mod Firsts
pub mod Placing
pub mod Readings
