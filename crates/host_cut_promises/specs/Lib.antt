pub mod Cut
pub mod Inner
