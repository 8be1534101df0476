pub mod MeshTaking
pub mod Inner
