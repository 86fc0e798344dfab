pub mod Definitions
pub mod Directives
pub mod Types
pub mod Values
