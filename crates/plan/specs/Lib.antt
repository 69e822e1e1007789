pub mod Packet
pub mod Plan
pub mod Inner
pub mod Promises
pub mod Claims
