-- What ends a stamp, to be believed: the texts of offsets, and the moment in UTC. Behind these, what computes the same.
pub mod Grammar
pub mod Utc
pub mod Answer
