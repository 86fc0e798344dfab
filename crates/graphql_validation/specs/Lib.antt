pub mod CollectionSteps
pub use Rattle.graphql_operations.specs.Contexts
pub use Rattle.graphql_rules.specs.RuleSets
pub use Rattle.graphql_rules.specs.SelectionSteps
pub use Rattle.graphql_pair_merging.specs.Works
