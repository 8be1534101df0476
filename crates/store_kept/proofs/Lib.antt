pub mod Laid
pub mod Named
pub mod Judged
