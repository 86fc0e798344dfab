pub use Rattle.graphql_nesting.specs.Nesting
