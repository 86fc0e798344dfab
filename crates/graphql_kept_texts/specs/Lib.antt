pub mod Cuts
pub mod Faults
