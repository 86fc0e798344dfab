pub mod BlockStrings
pub mod Values
pub mod Scans
