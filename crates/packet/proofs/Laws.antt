pub mod Allowed
pub mod Accepts
pub mod NamesInside
pub mod Rows
