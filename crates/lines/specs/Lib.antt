-- What the contracts of `lines` cite.
pub mod Escape
pub mod Line
pub mod Named
