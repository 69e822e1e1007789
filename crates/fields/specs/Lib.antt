pub mod Header
pub mod Walk
pub mod Inner
pub mod Apart
pub mod Promises
pub mod Layout
pub mod Claims
