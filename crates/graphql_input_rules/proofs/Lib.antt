pub mod DocumentLemmas
pub mod MetaFieldLemmas
pub mod PlaceLemmas
pub mod SelectionLemmas
pub mod ValueLemmas
