-- The relations and the computation agree.
pub mod LongestTimes
pub mod Agreement
pub mod Refusals
pub mod Bounds
pub mod Marks
pub mod Offsets
