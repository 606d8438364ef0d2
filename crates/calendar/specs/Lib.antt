-- What the contracts of `calendar` cite.
pub mod Calendar
pub mod Cycle
