pub mod Laws
pub mod Alike
pub mod Figures
