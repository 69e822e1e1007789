pub mod Line
pub mod Inner
pub mod Printing
pub mod Promises
pub mod Claims
