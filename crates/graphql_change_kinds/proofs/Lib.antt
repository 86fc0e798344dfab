pub mod FindsLemmas
pub mod TruthLemmas
