pub mod Kind
pub mod Judge
pub mod Reading
pub mod Found
pub mod Inner
pub mod Promises
