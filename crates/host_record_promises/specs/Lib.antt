pub mod Next
pub mod Plain
pub mod Judge
pub mod Crossing
pub mod Cells
pub mod Boards
