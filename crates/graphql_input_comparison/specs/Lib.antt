pub mod Inputs
pub mod Owners
