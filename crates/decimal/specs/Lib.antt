-- What a reviewer must believe: the text of a number, as a relation (NumberText) and as a computation that is proved equal (Decimal). No
-- definition is a private helper's alone.
pub mod NumberText
pub mod Decimal
