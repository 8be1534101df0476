pub mod Public
pub mod Alike
