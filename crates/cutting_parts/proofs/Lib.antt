pub mod Part
pub mod Entries
pub mod Passes
pub mod Parts
pub mod Figures
