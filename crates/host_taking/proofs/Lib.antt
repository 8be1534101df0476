pub mod Taken
pub mod Held
