pub mod Cycles
pub mod Labels
pub mod Notes
