pub mod Field
pub mod Put
pub mod Layout
pub mod Mixed
pub mod Touched
