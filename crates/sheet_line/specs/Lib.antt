pub mod Line
pub mod Inner
pub mod Promises
