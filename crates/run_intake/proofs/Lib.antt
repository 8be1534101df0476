pub mod Room
pub mod Front
pub mod Moving
pub mod Ahead
