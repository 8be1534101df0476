pub mod ReadSmall
pub mod Readers
pub mod WriteSmall
pub mod Writers
