pub mod Mean
pub mod Closer
pub mod Products
pub mod AnyParts
pub mod Error
pub mod Made
pub mod Figures
