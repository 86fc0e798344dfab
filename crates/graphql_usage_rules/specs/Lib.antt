pub mod Parts
pub mod Scopes
pub mod UndefinedVariables
pub mod Usages
pub mod VariableMisuses
pub use Rattle.graphql_reporting.specs.Lists
pub use Rattle.graphql_reach.specs.Reach
pub use Rattle.graphql_reach.specs.declared.reports.ReachReport
