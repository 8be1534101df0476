pub mod Period
pub mod Kept
