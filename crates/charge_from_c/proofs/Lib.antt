pub mod Charges
pub mod Period
