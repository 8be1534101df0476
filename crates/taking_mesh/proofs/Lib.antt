pub mod MeshLaws
