pub mod Outcomes
pub mod Records
pub mod Taken
pub mod Runs
pub mod OldCalls
