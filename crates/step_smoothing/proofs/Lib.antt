pub mod CorrectionLaws
pub mod KeepLaws
