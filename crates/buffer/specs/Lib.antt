-- What a reviewer must believe: a lent buffer after bytes are put into it, and what a printing answers. No definition is a private helper's
-- alone.
pub mod Buffer
pub mod Written
