pub mod PageSmall
pub mod BoardSmall
pub mod Boards
pub mod Fields
