pub mod Lines
pub mod Kept
pub mod Fits
pub mod Held
pub mod Pieces
