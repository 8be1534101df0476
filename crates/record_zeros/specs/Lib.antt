pub mod Zeros
pub mod Scans
