pub mod Places
pub mod Slots
pub mod Filling
pub mod BoundLaws
pub mod OverQ
