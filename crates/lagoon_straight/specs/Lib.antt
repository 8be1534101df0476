pub mod Straight
pub mod Inner
