pub mod ReferenceLemmas
pub mod WalkLemmas
