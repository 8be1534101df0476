pub mod Listed
pub mod Figures
