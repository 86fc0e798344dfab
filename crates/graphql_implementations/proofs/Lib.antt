pub mod ImplementationLemmas
pub mod TypeEqualityLemmas
