pub mod Insertion
pub mod Entries
pub mod Order
