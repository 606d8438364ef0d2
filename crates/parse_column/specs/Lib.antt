-- What a reviewer must believe: what a column's answer says, and which column a number names.
pub mod Read
pub mod Numbers
-- What one reading of the texts finds; no contract of a public function cites it.
pub mod Helpers
