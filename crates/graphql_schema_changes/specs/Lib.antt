pub mod Keeps
pub mod Places
