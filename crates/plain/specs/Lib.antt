pub mod Unrounded
pub mod Error
pub mod Made
