pub mod Packets
pub mod Line
pub mod Rows
pub mod Values
pub mod Widths
pub mod Fits
pub mod Digits
