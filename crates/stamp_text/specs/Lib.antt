-- The texts of stamps, all of it to be believed: the grammar, what a stamp names and why a text is refused (Meaning, the relations; Answer,
-- which computes the same and is proved equal). What was read before offsets were (Before) is cited by theorems alone.
pub mod Grammar
pub mod Meaning
pub mod Answer
pub mod Before
