pub mod Error
pub mod Own
