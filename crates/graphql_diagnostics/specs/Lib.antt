pub mod Bounds
pub mod BuildErrorMessages
pub mod Diagnostics
pub mod Messages
pub mod Reports
