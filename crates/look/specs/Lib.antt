pub mod Look
pub mod Steps
pub mod Inner
pub mod Promises
pub mod Claims
