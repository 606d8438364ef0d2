-- What the proofs of several functions use.
pub mod ColumnStatus
pub mod Listed
pub mod Readings
pub mod RecordStatus
pub mod TextStatus
