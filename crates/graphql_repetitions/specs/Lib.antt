pub mod References
pub mod Repetitions
