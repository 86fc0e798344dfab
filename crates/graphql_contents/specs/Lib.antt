pub mod Contents
pub mod Documents
pub mod Fragments
pub mod Tables
pub mod Written
