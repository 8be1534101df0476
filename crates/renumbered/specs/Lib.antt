pub mod Renumbered
pub mod Turned
