pub mod Choice
pub mod Big
pub mod Buffer
pub mod Text
pub mod Hex
pub mod Promises
pub mod Claims
