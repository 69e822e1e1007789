pub mod Record
pub mod Answer
pub mod Table
pub mod Promises
pub mod Claims
