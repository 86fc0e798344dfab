pub mod OperationTrees
pub mod Projects
pub use Rattle.graphql_tokens.specs.Lexical
pub use Rattle.graphql_reach.specs.Reach
pub use Rattle.graphql_reach.specs.Reached
pub use Rattle.graphql_specification.specs.Defer
