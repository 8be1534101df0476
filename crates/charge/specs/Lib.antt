pub mod Charge
pub mod Answers
pub mod Made
