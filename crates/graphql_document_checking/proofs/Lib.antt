pub mod CheckLemmas
pub mod DocumentLemmas
pub use Rattle.graphql_document_building.proofs.BuiltLemmas
