pub mod ConcentrationLaws
