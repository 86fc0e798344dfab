pub mod PlaceLemmas
pub mod PositionLemmas
