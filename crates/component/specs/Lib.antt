-- What the contracts of `component` cite, all of it to be believed: the grammar and its division, a component's unit, where one cannot be
-- read, and what the answer of `component` says of them. What an amount is stands in `amount`.
pub mod Grammar
pub mod Division
pub mod Spelled
pub mod Fault
pub mod Read
