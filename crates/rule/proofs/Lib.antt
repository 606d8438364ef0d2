-- Demand 3, and what it stands on.
pub mod Turns
pub mod Demand3
pub mod Cuts
pub mod Readings
