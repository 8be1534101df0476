pub mod Taking
pub mod Inner
pub mod KindThree
