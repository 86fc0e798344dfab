pub mod Silence
pub mod Truth
