-- What the contracts of `room` cite.
pub mod Room
