pub mod Keys
pub mod LineAt
