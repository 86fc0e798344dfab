pub mod Checks
pub mod Messages
pub mod Nesting
pub mod Levels
pub mod Search
pub mod Spreads
pub mod Written
