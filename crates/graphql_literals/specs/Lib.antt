pub mod Literals
pub mod Programs
pub mod Templates
