pub mod Event
pub mod Inner
pub mod Promises
pub mod Claims
