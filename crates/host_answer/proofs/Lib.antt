pub mod Fills
pub mod Small
pub mod Answers
pub mod Tables
pub mod Steps
