pub mod Held
pub mod Steps
pub mod Stores
pub mod Run
