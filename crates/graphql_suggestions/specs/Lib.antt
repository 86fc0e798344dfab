pub mod Defined
pub mod Suggestions
