pub mod Named
pub mod Effects
pub mod Back
pub mod Judged
