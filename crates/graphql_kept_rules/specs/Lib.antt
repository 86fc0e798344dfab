pub mod InputTypes
pub mod SameTexts
pub use Rattle.graphql_schema_changes.specs.Keeps
