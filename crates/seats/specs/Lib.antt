pub mod Found
pub mod Inner
pub mod Promises
