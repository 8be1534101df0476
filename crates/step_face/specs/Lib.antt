pub mod Correction
pub mod Exchange
