pub mod CountLemmas
pub mod ReachLemmas
pub mod ReachedLemmas
pub mod SearchLemmas
pub mod SelectionLemmas
pub mod SpreadLemmas
