pub mod Corrections
pub mod Smoothing
