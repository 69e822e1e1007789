pub mod Lines
pub mod Readings
pub mod Named
pub mod Judgement
pub mod Scanned
pub mod Claims
pub mod Decides
