-- What a reviewer must believe: what the answers of `count` say. No definition is a private helper's alone.
pub mod Read
