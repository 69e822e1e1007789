pub mod Writing
pub mod Canonical
pub mod Inner
pub mod Promises
pub mod Claims
