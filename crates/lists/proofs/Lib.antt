pub mod Tests
pub mod Sums
pub mod Tables
pub mod Renumbered
pub mod Turns
pub mod Marked
