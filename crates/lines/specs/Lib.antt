pub mod Lines
pub mod Pieces
pub mod Promises
pub mod Claims
