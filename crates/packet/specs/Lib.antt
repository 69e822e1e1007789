pub mod Message
pub mod Asked
pub mod Row
pub mod Meaning
pub mod Inner
pub mod Apart
pub mod Promises
pub mod Claims
