pub mod Small
pub mod Cut
