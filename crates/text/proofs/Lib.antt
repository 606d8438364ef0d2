-- Laws that belong to no one function.
pub mod Bools
pub mod Computed
pub mod DigitLaws
pub mod Parts
pub mod Runs
pub mod Eights
pub mod Values
pub mod TrimLaws
pub mod TrimAgrees
pub mod TwoDigits
pub mod Logic
pub mod Places
pub mod DigitLists
pub mod Table
