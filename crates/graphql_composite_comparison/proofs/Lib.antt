pub mod ApplyLemmas
pub mod ListedLemmas
