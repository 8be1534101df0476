pub mod FieldLaws
pub mod StepLaws
pub mod KindThree
