pub mod AddLemmas
pub mod ExactLemmas
pub mod SelectionLemmas
pub mod ValueLemmas
