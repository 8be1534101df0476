pub mod Page
pub mod Fitting
pub mod Answers
pub mod Reading
