pub mod OneFace
