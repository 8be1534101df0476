pub mod Schemes
pub mod NewMesh
pub mod TwoSteps
pub mod Renumbered
pub mod TurnedFace
pub mod Figures
