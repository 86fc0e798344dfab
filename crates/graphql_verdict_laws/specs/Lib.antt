pub mod Kinds
pub mod Limits
