-- What the contracts of `time` cite; all of it to be believed: the grammar, with what a text is read as and why it is refused, and the
-- answer, which computes the same and is proved equal.
pub mod Grammar
pub mod Answer
