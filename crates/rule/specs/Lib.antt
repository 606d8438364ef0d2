-- The interval rule, all of it to be believed: what a component contributes, and which answer a text has, as a relation (Meaning) and as a
-- computation that is proved equal (Answer).
pub mod Contribution
pub mod Meaning
pub mod Answer
