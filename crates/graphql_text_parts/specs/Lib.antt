pub use Rattle.graphql_tokens.specs.Lexical
