pub mod WidthLaws
pub mod WriteLaws
pub mod Accepting
pub mod Back
pub mod RoundTrip
pub mod WrittenBack
pub mod Figures
