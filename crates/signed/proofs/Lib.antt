pub mod Laws
pub mod Turns
mod Machine
