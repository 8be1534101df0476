pub mod Channel
pub mod Printed
