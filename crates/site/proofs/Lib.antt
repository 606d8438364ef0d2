-- Laws that belong to no one function.
pub mod SiteAgrees
pub mod Refusals
pub mod Readings
