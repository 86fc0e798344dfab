mod BuildingLemmas
mod ErrorLemmas
mod FileLemmas
mod KnownLemmas
mod LentLemmas
mod OperationLemmas
mod PartLemmas
mod PartTruthLemmas
mod ProjectLemmas
mod ReachingLemmas
mod SilenceLemmas
mod TextLemmas
mod TreeLemmas
pub mod TruthLemmas
mod UseLemmas
mod UseTruthLemmas
