pub mod Messages
pub mod Reach
pub mod Reached
pub mod Written
