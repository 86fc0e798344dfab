pub mod BuildsLemmas
pub mod DistinctLemmas
pub mod FoundLemmas
pub mod NumberedLemmas
pub mod PartLemmas
pub mod RedefinedLemmas
pub mod RootLemmas
pub mod TypePartLemmas
