pub mod CheckLemmas
pub mod DescentLemmas
pub mod ExclusionLemmas
pub mod ProgressLemmas
pub mod SearchLemmas
pub mod WalkLemmas
pub mod WeightLemmas
