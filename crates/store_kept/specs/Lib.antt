pub mod Store
pub mod Found
pub mod Tests
