pub mod StepLaws
pub mod Rows
