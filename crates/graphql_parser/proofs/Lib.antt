pub mod BeginningLemmas
pub mod CompletionLemmas
pub mod DocumentLemmas
pub mod LevelLemmas
pub mod ParseLemmas
pub mod PlaceLemmas
pub mod RefusalLemmas
pub mod WholeLemmas
