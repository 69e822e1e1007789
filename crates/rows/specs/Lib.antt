pub mod Rows
pub mod Lent
pub mod Held
pub mod Promises
pub mod Inner
pub mod Claims
