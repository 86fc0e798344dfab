pub mod FixedRuleLemmas
mod KeyLaws
mod KeyLemmas
mod OperationStepLemmas
mod RootLemmas
pub mod RuleReportLemmas
pub use Rattle.graphql_validation.proofs.RuleSetLemmas
