pub mod OperationDocumentLemmas
pub mod SaidDefinitionLemmas
pub mod SaidReachLemmas
pub use Rattle.graphql_reach.proofs.ReachLemmas
