pub mod Turns
pub mod Fields
pub mod Puts
pub mod Bytes
pub mod Layouts
pub mod Readings
pub mod Writings
pub mod Figures
