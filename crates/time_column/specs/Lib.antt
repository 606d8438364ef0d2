-- What a reviewer must believe: what a time column reads.
pub mod Answer
-- A law that the columns cite; it states nothing to be believed.
pub mod Widths
