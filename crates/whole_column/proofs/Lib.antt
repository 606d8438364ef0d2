-- What is stated of whole columns.
pub mod Agreement
pub mod Unread
pub mod Cells
