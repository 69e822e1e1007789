pub mod Sized
pub mod Checks
pub mod Walk
pub mod Fields
pub mod Step
pub mod Layouts
