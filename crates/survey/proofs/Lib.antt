pub mod Floats
pub mod Shares
pub mod Stages
pub mod Figures
