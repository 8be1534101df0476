pub mod KindThree
