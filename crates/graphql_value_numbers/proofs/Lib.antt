pub mod NamedNumberLemmas
pub mod NumberLaws
pub mod NumberingLemmas
