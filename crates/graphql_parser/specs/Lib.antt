pub mod DocumentReaders
pub mod Documents
pub mod Parses
pub mod Refusals
