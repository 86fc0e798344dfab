pub mod HelpWords
pub mod Helps
