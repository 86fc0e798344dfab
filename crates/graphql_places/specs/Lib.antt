pub mod LineIndexes
pub mod Places
