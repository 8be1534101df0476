pub mod Before
pub mod BeforeRun
pub mod OldCalls
