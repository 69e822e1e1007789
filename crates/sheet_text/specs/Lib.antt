pub mod Text
pub mod Reading
pub mod Inner
pub mod Promises
pub mod Claims
