pub mod Cut
pub mod Refusals
pub mod Parts
