pub mod DocumentLemmas
pub mod OneFileLemmas
pub mod PartDocumentLemmas
pub mod PartLemmas
pub mod ReachedTreeLemmas
pub mod ValidDocumentLemmas
