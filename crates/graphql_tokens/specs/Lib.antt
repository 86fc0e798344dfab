pub mod Characters
pub mod Ignored
pub mod Lexical
pub mod Scans
pub mod Strings
