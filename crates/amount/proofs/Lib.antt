-- Laws that belong to no one function.
pub mod AmountLaws
pub mod Amounts
pub mod Fractions
