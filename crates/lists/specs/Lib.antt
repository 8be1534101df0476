pub mod Fold
pub mod Table
pub mod Renumbering
pub mod Marked
