pub mod InputFields
pub mod SchemaValues
pub mod Selections
pub mod ValuesWritten
pub use Rattle.graphql_reporting.specs.Lists
