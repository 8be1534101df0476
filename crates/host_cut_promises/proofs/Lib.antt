pub mod Cut
pub mod Labels
pub mod Room
pub mod Order
