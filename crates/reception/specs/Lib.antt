pub mod Steps
pub mod Schedule
pub mod Serial
pub mod History
pub mod Inner
pub mod Promises
pub mod Claims
