pub mod ListLemmas
pub mod ValueLemmas
