pub mod ZeroLaws
pub mod Minus
