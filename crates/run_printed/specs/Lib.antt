pub mod Run
pub mod Program
pub mod Totals
