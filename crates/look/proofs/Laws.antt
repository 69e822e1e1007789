pub mod Line
pub mod Pieces
pub mod Calls
pub mod Steps
pub mod Room
