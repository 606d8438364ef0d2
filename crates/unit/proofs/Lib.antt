-- Laws that belong to no one function.
pub mod Numbering
pub mod Spelling
pub mod Keying
pub mod Packing
pub mod WordLaws
