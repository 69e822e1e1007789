pub mod Sending
pub mod Inner
pub mod Promises
pub mod Claims
