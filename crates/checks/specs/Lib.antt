pub mod Total
pub mod Quick
pub mod Lent
