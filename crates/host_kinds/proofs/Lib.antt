pub mod Unreleased
pub mod KindThree
