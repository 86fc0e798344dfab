pub mod InputLemmas
pub mod RequiredLemmas
pub mod TypeCopyLemmas
