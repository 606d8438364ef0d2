-- What a reviewer must believe: the answer in a default unit, or that there is no such unit; the answer of a whole column, or that there
-- is no such column. No definition is a private helper's alone.
pub mod DefaultUnit
pub mod ColumnNumber
-- The calls together, for the theorem that each refusal is a number of document 01's list; no contract cites it.
pub mod Calls
