pub mod ContentLemmas
pub mod ImplementerLemmas
pub mod ListLemmas
pub mod SelectionLemmas
pub mod SubtypeLemmas
pub mod ValueContentLemmas
pub mod VariableUseLemmas
