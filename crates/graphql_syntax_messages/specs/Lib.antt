pub mod SyntaxMessages
