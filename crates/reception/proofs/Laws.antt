pub mod Steps
pub mod Checks
pub mod Stores
pub mod Serial
pub mod History
