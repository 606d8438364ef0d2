-- Laws that belong to no one function.
pub mod Parts
pub mod Loops
pub mod Calls
pub mod Single
pub mod Agreement
pub mod RoundTrip
