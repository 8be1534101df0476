pub mod Places
pub mod Corrections
pub mod Transfers
pub mod Flows
