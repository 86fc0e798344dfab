pub mod LearnsLemmas
pub mod NamedLemmas
pub mod ShapeLemmas
