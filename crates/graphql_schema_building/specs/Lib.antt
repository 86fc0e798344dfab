pub mod Numbered
pub mod Parts
pub mod SchemaSays
pub mod Steps
pub mod TypeParts
pub mod TypesSay
pub use Rattle.graphql_schema_checking.specs.SchemaBuilds
pub use Rattle.graphql_schema_checking.specs.SchemaReports
