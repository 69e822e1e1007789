pub mod Refusal
pub mod Table
pub mod Judge
pub mod Value
pub mod Find
pub mod Inner
pub mod Promises
pub mod Claims
