pub mod Breaks
pub mod Changes
pub mod Forms
pub mod Found
pub mod Kinds
