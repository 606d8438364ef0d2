-- What a reviewer must believe: numbers of a width, and the texts of integers. No definition is a private helper's alone.
pub mod Widths
pub mod Decimal
