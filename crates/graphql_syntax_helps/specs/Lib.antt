pub mod Brackets
pub mod HelpWords
pub mod SyntaxHelps
