pub mod Endings
pub mod Added
pub mod Short
