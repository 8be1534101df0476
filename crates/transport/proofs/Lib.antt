pub mod Widths
pub mod Advances
pub mod Promises
