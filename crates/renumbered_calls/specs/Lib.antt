pub mod Tables
pub mod Anew
pub mod Hosts
