pub mod Number
pub mod Found
pub mod Steps
