pub mod Groups
pub mod Asks
