pub mod Value
pub mod Reply
pub mod Promises
