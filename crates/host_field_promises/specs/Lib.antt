pub mod Field
pub mod Board
