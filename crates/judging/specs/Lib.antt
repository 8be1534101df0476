pub mod Promise
pub mod Own
