-- Laws that belong to no one function.
pub mod Utf8Rows
pub mod Utf8Steps
pub mod Utf8Agrees
pub mod Ascii
