pub mod EitherLemmas
pub mod MatchingLemmas
pub mod RowLemmas
