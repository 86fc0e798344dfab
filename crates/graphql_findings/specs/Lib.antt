pub mod Findings
pub mod Helps
pub mod Notes
pub mod Order
pub mod Singles
