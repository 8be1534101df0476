pub mod Refusing
pub mod Passed
