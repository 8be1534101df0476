pub mod Prints
pub mod Accepted
pub mod Totals
